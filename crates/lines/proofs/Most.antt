-- Every line of every answer, verdict and form is at most `line_most` bytes long, and by its words that of 13 can be so long.
use Rattle.rules.specs.Verdict.{Verdict}
use Rattle.std.specs.Prelude.{Err, Ok}
use mathlib.Core.Path.{◌≡◌, refl}
use mathlib.Core.List.{List, [], ◌∷◌, ◌++◌}
use Prim.Native.Nat.{ℕ, ◌+◌, ◌≤◌}
use Prim.Native.String.{String}
use native.Mathlib.Omega.{arith}
use native.Mathlib.Nat.{le_trans}
use lib.ListN.{length, length-append}
use lib.Dec.{lit≤}
use Rattle.reading.specs.declared.Form.{Form}
use Rattle.reading.specs.Reading.{form_number, form_offset}
use Rattle.events.specs.declared.Refusal.TheVariants.{IllFormed, BadEvent, NotRed, Occupied, Held, NotGreen, HomeOccupied, TrainIn, TrainOut, Red}
use Rattle.events.specs.declared.Harm.TheVariants.{Collision, RunThrough, Derailment}
use Rattle.events.specs.declared.Deed.TheVariants.{Granted, Cancelled, Entered, Moved, Left}
use Rattle.events.specs.declared.Answer.{Answer}
use Rattle.events.specs.declared.Answer.TheVariants.{Refused, Accident, Done}
use Rattle.events.specs.Answers.{answer_values}
use Rattle.lines.specs.Decimal.{decimal, number_most}
use Rattle.lines.specs.Lines.{bytes_of, line, refusal_words, harm_words, deed_words, answer_words, table_number, answer_line, verdict_line, form_line, line_most}
use Rattle.lines.proofs.Digits.{decimal_most}

-- the room for words, whatever their numbers, and the end
room : List String → ℕ
room [] = 1
room (word ∷ words) = length (bytes_of word) + number_most + room words

line_most_lem : (words : List String) (numbers : List ℕ) → length (line words numbers) ≤ room words
unfolding line room
line_most_lem [] numbers = omega arith
line_most_lem (word ∷ words) [] = omega arith
line_most_lem (word ∷ words) (n ∷ numbers) =
    rw (length-append (bytes_of word ++ decimal n) (line words numbers), length-append (bytes_of word) (decimal n))
    (let d = decimal_most n in let i = line_most_lem words numbers in omega arith)

words_room : (answer : Answer) → room (answer_words answer) ≤ line_most
unfolding room answer_words refusal_words harm_words deed_words bytes_of
words_room (Refused IllFormed) = lit≤ tt
words_room (Refused BadEvent) = lit≤ tt
words_room (Refused NotRed) = lit≤ tt
words_room (Refused (Occupied track train)) = lit≤ tt
words_room (Refused (Held point)) = lit≤ tt
words_room (Refused NotGreen) = lit≤ tt
words_room (Refused (HomeOccupied track)) = lit≤ tt
words_room (Refused TrainIn) = lit≤ tt
words_room (Refused TrainOut) = lit≤ tt
words_room (Refused (Red signal)) = lit≤ tt
words_room (Accident (Collision track)) = lit≤ tt
words_room (Accident (RunThrough track)) = lit≤ tt
words_room (Accident (Derailment point)) = lit≤ tt
words_room (Done (Granted route)) = lit≤ tt
words_room (Done (Cancelled route)) = lit≤ tt
words_room (Done (Entered train track)) = lit≤ tt
words_room (Done (Moved train from to)) = lit≤ tt
words_room (Done (Left train from)) = lit≤ tt

-- no less would do for the words of 13
needed : (track train : ℕ) → room (answer_words (Refused (Occupied track train))) ≡ line_most
unfolding room answer_words refusal_words bytes_of
needed track train = refl

pub answer_most : (answer : Answer) → length (answer_line answer) ≤ line_most
unfolding answer_line
answer_most answer = le_trans (line_most_lem (answer_words answer) (table_number answer ++ answer_values answer)) (words_room answer)

pub verdict_most : (verdict : Verdict) → length (verdict_line verdict) ≤ line_most
unfolding verdict_line room bytes_of
verdict_most (Ok u) = lit≤ tt
verdict_most (Err b) = le_trans (line_most_lem ("rule " ∷ " row " ∷ []) (b.rule ∷ b.row ∷ [])) (lit≤ tt)

pub form_most : (form : Form) → length (form_line form) ≤ line_most
unfolding form_line room bytes_of
form_most form = le_trans (line_most_lem ("form " ∷ " at " ∷ []) (form_number form ∷ form_offset form ∷ [])) (lit≤ tt)
