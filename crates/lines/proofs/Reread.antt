-- A word has no digits and a number has nothing else, so that each number of a line is a run of its own; first byte and numbers are then of one answer.
use Rattle.rules.specs.Verdict.{Verdict, broken}
use Rattle.std.specs.Prelude.{None, Option, Some, Err, Ok}
use mathlib.Core.Path.{◌≡◌, refl, sym, ap, ◌∙◌}
use mathlib.Core.Bool.{Bool, true, false, not, ◌&&◌}
use mathlib.Core.List.{List, [], ◌∷◌, ◌++◌, append_assoc}
use Prim.Native.Nat.{ℕ, ◌+◌, ◌-◌, ◌*◌, ◌^◌, ◌<◌, ◌≤◌}
use Prim.Native.String.{String}
use native.Mathlib.Omega.{arith}
use native.Mathlib.Nat.{not-suc-le-zero}
use lib.ListN.{length, get_or, take}
use borrow.Author.Tests.{lt-ltb, le-ltb}
use Rattle.laws.specs.Tests.{Is, clash, and_l, and_r, not_t}
use Rattle.laws.specs.Lists.{All, all_map, all_of}
use Rattle.laws.specs.Search.{first_with}
use Rattle.reading.specs.declared.Form.{Form}
use Rattle.reading.proofs.Meaning.{same_form}
use Rattle.events.specs.declared.Refusal.{Refusal}
use Rattle.events.specs.declared.Refusal.TheVariants.{IllFormed, BadEvent, NotRed, Occupied, Held, NotGreen, HomeOccupied, TrainIn, TrainOut, Red}
use Rattle.events.specs.declared.Harm.{Harm}
use Rattle.events.specs.declared.Harm.TheVariants.{Collision, RunThrough, Derailment}
use Rattle.events.specs.declared.Deed.TheVariants.{Granted, Cancelled, Entered, Moved, Left}
use Rattle.events.specs.declared.Answer.{Answer}
use Rattle.events.specs.declared.Answer.TheVariants.{Refused, Accident, Done}
use Rattle.events.specs.Answers.{refusal_number, refusal_values, harm_number, harm_values, deed_values, answer_values}
use Rattle.lines.specs.Decimal.{digit, decimal, value_from, number_most}
use Rattle.lines.specs.Lines.{bytes_of, line, refusal_words, harm_words, deed_words, answer_words, table_number, answer_line, verdict_line, form_line}
use Rattle.lines.specs.Reread.{is_digit, ended, numbers_from, numbers_in, answer_numbers, verdict_numbers, form_numbers, Printable, Reread}
use Rattle.lines.proofs.Digits.{decimal_means}

-- A number: its digits are one run.

abbrev Digit : ℕ → Type 0
Digit b = (digit 0 ≤ b) × (b ≤ digit 9)

digit_is : (b : ℕ) → Digit b → is_digit b ≡ true
digit_is b h = rw (le-ltb b (digit 0) h.0, lt-ltb b (digit 10) (omega (arith, h.1)))

run_on : (n : ℕ) (digits rest : List ℕ) → All Digit digits → numbers_from (Some n) (digits ++ rest) ≡ numbers_from (Some (value_from n digits)) rest
unfolding All numbers_from value_from
run_on n [] rest w = refl
run_on n (b ∷ digits) rest w = rw (digit_is b w.0) (run_on (n * 10 + (b - digit 0)) digits rest w.1)

run_read : (digits rest : List ℕ) → 0 < length digits → All Digit digits → numbers_from None (digits ++ rest) ≡ numbers_from (Some (value_from 0 digits)) rest
unfolding All numbers_from value_from
run_read [] rest h w = absurd (not-suc-le-zero h)
run_read (b ∷ digits) rest h w = rw (digit_is b w.0) (run_on (0 * 10 + (b - digit 0)) digits rest w.1)

number_read : (n : ℕ) (rest : List ℕ) → n < 10 ^ number_most → numbers_from None (decimal n ++ rest) ≡ numbers_from (Some n) rest
number_read n rest h = let d = decimal_means n h in run_read (decimal n) rest d.some d.each ∙ ap (λ v. numbers_from (Some v) rest) d.value

-- A word: no digit stands in it, and it is not empty, so that a run before it ends.

abbrev other : ℕ → Bool
other b = not (is_digit b)

is_word : List ℕ → Bool
is_word [] = false
is_word (b ∷ bytes) = other b && all_of other bytes

abbrev Word : String → Type 0
Word word = Is (is_word (bytes_of word))

others_read : (bytes rest : List ℕ) → Is (all_of other bytes) → numbers_from None (bytes ++ rest) ≡ numbers_from None rest
unfolding numbers_from
others_read [] rest w = refl
others_read (b ∷ bytes) rest w =
    rw (not_t (is_digit b) (and_l (other b) (all_of other bytes) w)) (others_read bytes rest (and_r (other b) (all_of other bytes) w))

word_read : (run : Option ℕ) (bytes rest : List ℕ) → Is (is_word bytes) → numbers_from run (bytes ++ rest) ≡ ended run (numbers_from None rest)
unfolding is_word numbers_from
word_read run [] rest w = clash {b = false} w refl
word_read run (b ∷ bytes) rest w =
    rw (not_t (is_digit b) (and_l (other b) (all_of other bytes) w)) (ap (ended run) (others_read bytes rest (and_r (other b) (all_of other bytes) w)))

-- A line: as many of its numbers as it has words.

line_read : (run : Option ℕ) (words : List String) (numbers : List ℕ) → All Word words → Printable (take (length words) numbers)
    → numbers_from run (line words numbers) ≡ ended run (take (length words) numbers)
unfolding All line numbers_from
line_read run [] numbers w f = refl
line_read run (word ∷ words) [] w f = refl
line_read run (word ∷ words) (n ∷ numbers) w f =
    ap (numbers_from run) (append_assoc (bytes_of word) (decimal n) (line words numbers))
    ∙ word_read run (bytes_of word) (decimal n ++ line words numbers) w.0
    ∙ ap (ended run) (number_read n (line words numbers) f.0 ∙ line_read (Some n) words numbers w.1 f.1)

-- an answer's words, and that there is one for each of its numbers
record Said (a : Answer) : Type 0 where
  each : All Word (answer_words a)
  whole : answer_numbers a ≡ table_number a ++ answer_values a

said : (a : Answer) → Said a
unfolding All is_word bytes_of answer_words refusal_words harm_words deed_words table_number answer_values refusal_values harm_values deed_values
said (Refused IllFormed) = record { each = (refl, tt); whole = refl }
said (Refused BadEvent) = record { each = (refl, tt); whole = refl }
said (Refused NotRed) = record { each = (refl, tt); whole = refl }
said (Refused (Occupied track train)) = record { each = (refl, (refl, (refl, tt))); whole = refl }
said (Refused (Held point)) = record { each = (refl, (refl, tt)); whole = refl }
said (Refused NotGreen) = record { each = (refl, tt); whole = refl }
said (Refused (HomeOccupied track)) = record { each = (refl, (refl, tt)); whole = refl }
said (Refused TrainIn) = record { each = (refl, tt); whole = refl }
said (Refused TrainOut) = record { each = (refl, tt); whole = refl }
said (Refused (Red signal)) = record { each = (refl, (refl, tt)); whole = refl }
said (Accident (Collision track)) = record { each = (refl, (refl, tt)); whole = refl }
said (Accident (RunThrough track)) = record { each = (refl, (refl, tt)); whole = refl }
said (Accident (Derailment point)) = record { each = (refl, (refl, tt)); whole = refl }
said (Done (Granted route)) = record { each = (refl, tt); whole = refl }
said (Done (Cancelled route)) = record { each = (refl, tt); whole = refl }
said (Done (Entered train track)) = record { each = (refl, (refl, tt)); whole = refl }
said (Done (Moved train from to)) = record { each = (refl, (refl, (refl, tt))); whole = refl }
said (Done (Left train from)) = record { each = (refl, (refl, tt)); whole = refl }

answer_read : (a : Answer) → Printable (answer_numbers a) → numbers_in (answer_line a) ≡ answer_numbers a
unfolding numbers_in answer_line
answer_read a f = line_read None (answer_words a) (table_number a ++ answer_values a) (said a).each f

verdict_read : (v : Verdict) → Printable (verdict_numbers v) → numbers_in (verdict_line v) ≡ verdict_numbers v
unfolding All is_word bytes_of numbers_in numbers_from verdict_line
verdict_read (Ok u) f = refl
verdict_read (Err b) f = line_read None ("rule " ∷ " row " ∷ []) (b.rule ∷ b.row ∷ []) (refl, (refl, tt)) f

form_read : (f : Form) → Printable (form_numbers f) → numbers_in (form_line f) ≡ form_numbers f
unfolding All is_word bytes_of numbers_in form_line
form_read f w = line_read None ("form " ∷ " at " ∷ []) (form_numbers f) (refl, (refl, tt)) w

-- Back from a first byte and numbers.

abbrev first_byte : Answer → ℕ
first_byte a = get_or (answer_line a) 0 0

-- a refusal and an accident have their number first and then what they name; a deed has its values
answer_of : ℕ → ℕ → ℕ → ℕ → Answer
answer_of byte x y z =
    first_with first_byte (Refused refusal) (Refused refusal ∷ Accident harm
    ∷ Done (Granted x) ∷ Done (Cancelled x) ∷ Done (Entered x y) ∷ Done (Moved x y z) ∷ Done (Left x y) ∷ []) byte
  where
    refusal : Refusal
    refusal = first_with refusal_number IllFormed
        (IllFormed ∷ BadEvent ∷ NotRed ∷ Occupied y z ∷ Held y ∷ NotGreen ∷ HomeOccupied y ∷ TrainIn ∷ TrainOut ∷ Red y ∷ []) x

    harm : Harm
    harm = first_with harm_number (Collision y) (Collision y ∷ RunThrough y ∷ Derailment y ∷ []) x

answer_back : (a : Answer) → answer_of (first_byte a) (get_or (answer_numbers a) 0 0) (get_or (answer_numbers a) 1 0) (get_or (answer_numbers a) 2 0) ≡ a
unfolding first_with answer_of bytes_of line answer_line answer_words refusal_words harm_words deed_words table_number refusal_number refusal_values harm_number harm_values deed_values answer_values
answer_back (Refused IllFormed) = refl
answer_back (Refused BadEvent) = refl
answer_back (Refused NotRed) = refl
answer_back (Refused (Occupied track train)) = refl
answer_back (Refused (Held point)) = refl
answer_back (Refused NotGreen) = refl
answer_back (Refused (HomeOccupied track)) = refl
answer_back (Refused TrainIn) = refl
answer_back (Refused TrainOut) = refl
answer_back (Refused (Red signal)) = refl
answer_back (Accident (Collision track)) = refl
answer_back (Accident (RunThrough track)) = refl
answer_back (Accident (Derailment point)) = refl
answer_back (Done (Granted route)) = refl
answer_back (Done (Cancelled route)) = refl
answer_back (Done (Entered train track)) = refl
answer_back (Done (Moved train from to)) = refl
answer_back (Done (Left train from)) = refl

module _ (a b : Answer) (v : Printable (answer_numbers a)) (w : Printable (answer_numbers b)) (e : answer_line a ≡ answer_line b) where
  same_numbers : answer_numbers a ≡ answer_numbers b
  same_numbers = sym (answer_read a v) ∙ ap numbers_in e ∙ answer_read b w

  one_answer_lem : a ≡ b
  one_answer_lem = sym (answer_back a) ∙ rw (e, same_numbers) (answer_back b)

verdict_of : List ℕ → Verdict
verdict_of [] = Ok tt
verdict_of (rule ∷ rest) = broken rule (get_or rest 0 0)

verdict_back : (v : Verdict) → verdict_of (verdict_numbers v) ≡ v
unfolding verdict_of
verdict_back (Ok u) = refl
verdict_back (Err b) = refl

one_verdict_lem : (v w : Verdict) → Printable (verdict_numbers v) → Printable (verdict_numbers w) → verdict_line v ≡ verdict_line w → v ≡ w
one_verdict_lem v w f g e = sym (verdict_back v) ∙ ap verdict_of (sym (verdict_read v f) ∙ ap numbers_in e ∙ verdict_read w g) ∙ verdict_back w

one_form_lem : (f g : Form) → Printable (form_numbers f) → Printable (form_numbers g) → form_line f ≡ form_line g → f ≡ g
one_form_lem f g v w e =
    let same : form_numbers f ≡ form_numbers g = sym (form_read f v) ∙ ap numbers_in e ∙ form_read g w in
    same_form f g (ap (λ (l : List ℕ). get_or l 0 0) same) (ap (λ (l : List ℕ). get_or l 1 0) same)

reread : Reread
reread = record {
  held = all_map (λ n h. omega arith);
  answers = answer_read;
  verdicts = verdict_read;
  forms = form_read;
  shown = λ a b v w e. (ap answer_words (one_answer_lem a b v w e), same_numbers a b v w e);
  whole = λ a. (said a).whole;
  one_answer = one_answer_lem;
  one_verdict = one_verdict_lem;
  one_form = one_form_lem;
}
