-- Bytes that are packed come back one by one; number and values are of one outcome alone; and the numbers of the sorts lie apart.
use Rattle.writing.specs.declared.Unwritten.{Unwritten}
use Rattle.std.specs.Prelude.{Err, Ok, Result}
use mathlib.Core.Path.{◌≡◌, refl, sym, ap, ◌∙◌}
use mathlib.Core.Bool.{cond}
use mathlib.Core.Logic.{inl, inr}
use mathlib.Core.List.{List, [], ◌∷◌}
use Prim.Native.Nat.{ℕ, zero, suc, ◌+◌, ◌/◌, ◌%◌, ◌<◌, ◌≤◌}
use native.Mathlib.Omega.{arith}
use native.Mathlib.Nat.{le_trans, not-suc-le-zero}
use lib.ListN.{length, get_or, take, length-take}
use lib.Dec.{ltb, lit≤}
use borrow.Author.Tests.{lt-ltb, le-ltb}
use Rattle.laws.specs.Lists.{All}
use Rattle.laws.specs.Search.{first_with}
use Rattle.plan.specs.Limits.{image_size}
use Rattle.plan.specs.Records.{Plan}
use Rattle.plan.specs.File.{Readable}
use Rattle.plan.specs.Image.{plan_of}
use Rattle.reading.specs.declared.Form.{Form}
use Rattle.reading.specs.declared.Form.TheVariants.{EndsEarly, BadCount, BadNumber, NotRising, LeftOver}
use Rattle.reading.specs.Reading.{form, form_number, form_offset, parse}
use Rattle.reading.proofs.Meaning.{ends_early_lem, bad_byte, left_over_lem, longer_same, same_form, readable_fits}
use Rattle.images.proofs.Standing.{stands_for}
use Rattle.writing.specs.declared.Unwritten.TheVariants.{NoFile, NoRoom}
use Rattle.writing.specs.Writing.{written_number, written_length, file_in, written}
use Rattle.writing.proofs.Answers.{Outcome, unread, short, full, outcome}
use Rattle.rules.specs.Verdict.{Rule, rules, no_rule, rule_of, verdict, rule_number, rule_row, Verdict, broken}
use Rattle.rules.proofs.Verdicts.{Says, says, number_listed}
use Rattle.events.specs.declared.Refusal.TheVariants.{IllFormed, BadEvent, NotRed, Occupied, Held, NotGreen, HomeOccupied, TrainIn, TrainOut, Red}
use Rattle.events.specs.declared.Harm.TheVariants.{Collision, RunThrough, Derailment}
use Rattle.events.specs.declared.Deed.TheVariants.{Granted, Cancelled, Entered, Moved, Left}
use Rattle.events.specs.declared.Answer.{Answer}
use Rattle.events.specs.declared.Answer.TheVariants.{Refused, Accident, Done}
use Rattle.events.specs.Answers.{refusal_number, refusal_values, harm_number, harm_values, deed_number, deed_values, answer_number, answer_values}
use Rattle.state.specs.Cells.{state_in}
use Rattle.events.specs.Events.{first_event}
use Rattle.events.specs.Decide.{answer}
use Rattle.codes.specs.Codes.{packed, answer_code, form_code, verdict_code, written_code}
use Rattle.codes.specs.Decoding.{unpacked, Byte, ByteAnswer, ShortForm, ShortFile, Sort, nothing, aForm, too_little, no_file, an_answer, aLength, aVerdict, written_sort, Tells, Fitting, Apart, Decoding, Decoded}
use Rattle.codes.proofs.Coded.{verdict_coded}
use Rattle.codes.proofs.Fits.{first_fits, events_fit, trains_fit, values_fit}

-- Packed bytes come back.

unpacked_packed : (l : List ℕ) → All Byte l → unpacked (length l) (packed l) ≡ l
unfolding All unpacked packed
unpacked_packed [] w = refl
unpacked_packed (b ∷ l) w =
    let low : packed (b ∷ l) % 256 ≡ b = omega (arith, w.0) in
    let high : packed (b ∷ l) / 256 ≡ packed l = omega arith in
    rw (low, high, unpacked_packed l w.1)

-- the same code, the same bytes, and 0 past the last of them
same_bytes : (l m : List ℕ) → All Byte l → All Byte m → packed l ≡ packed m → (i : ℕ) → get_or l i 0 ≡ get_or m i 0
unfolding All packed
same_bytes [] [] v w e i = refl
same_bytes [] (b ∷ m) v w e zero = omega (arith, w.0)
same_bytes [] (b ∷ m) v w e (suc i) = same_bytes [] m tt w.1 (omega arith) i
same_bytes (a ∷ l) [] v w e zero = omega (arith, v.0)
same_bytes (a ∷ l) [] v w e (suc i) = same_bytes l [] v.1 tt (omega arith) i
same_bytes (a ∷ l) (b ∷ m) v w e zero = omega (arith, v.0, w.0)
same_bytes (a ∷ l) (b ∷ m) v w e (suc i) = same_bytes l m v.1 w.1 (omega arith) i

-- Back from a number and values.

-- an answer, from its number and three values, of which it takes those that it has
answer_of : ℕ → ℕ → ℕ → ℕ → Answer
answer_of n x y z =
    first_with answer_number (Refused IllFormed)
    (Refused IllFormed ∷ Refused BadEvent ∷ Refused NotRed ∷ Refused (Occupied x y) ∷ Refused (Held x) ∷ Refused NotGreen ∷ Refused (HomeOccupied x)
    ∷ Refused TrainIn ∷ Refused TrainOut ∷ Refused (Red x) ∷ Accident (Collision x) ∷ Accident (RunThrough x) ∷ Accident (Derailment x)
    ∷ Done (Granted x) ∷ Done (Cancelled x) ∷ Done (Entered x y) ∷ Done (Moved x y z) ∷ Done (Left x y) ∷ [])
    n

answer_back : (a : Answer) → answer_of (answer_number a) (get_or (answer_values a) 0 0) (get_or (answer_values a) 1 0) (get_or (answer_values a) 2 0) ≡ a
unfolding first_with answer_of refusal_number refusal_values harm_number harm_values deed_number deed_values answer_number answer_values
answer_back (Refused IllFormed) = refl
answer_back (Refused BadEvent) = refl
answer_back (Refused NotRed) = refl
answer_back (Refused (Occupied track train)) = refl
answer_back (Refused (Held point)) = refl
answer_back (Refused NotGreen) = refl
answer_back (Refused (HomeOccupied track)) = refl
answer_back (Refused TrainIn) = refl
answer_back (Refused TrainOut) = refl
answer_back (Refused (Red signal)) = refl
answer_back (Accident (Collision track)) = refl
answer_back (Accident (RunThrough track)) = refl
answer_back (Accident (Derailment point)) = refl
answer_back (Done (Granted route)) = refl
answer_back (Done (Cancelled route)) = refl
answer_back (Done (Entered train track)) = refl
answer_back (Done (Moved train from to)) = refl
answer_back (Done (Left train from)) = refl

same_said : (a b : Answer) → answer_number a ≡ answer_number b → answer_values a ≡ answer_values b → a ≡ b
same_said a b n v = sym (answer_back a) ∙ rw (n, v) (answer_back b)

one_answer_lem : (a b : Answer) → ByteAnswer a → ByteAnswer b → answer_code a ≡ answer_code b → a ≡ b
unfolding answer_code
one_answer_lem a b v w e =
    let same = same_bytes (answer_number a ∷ answer_values a) (answer_number b ∷ answer_values b) v w e in
    sym (answer_back a) ∙ rw (same 0, same 1, same 2, same 3) (answer_back b)

-- A form.

form_range : (f : Form) → Tells aForm (form_number f)
form_range (EndsEarly at) = (lit≤ tt, lit≤ tt)
form_range (BadCount at) = (lit≤ tt, lit≤ tt)
form_range (BadNumber at) = (lit≤ tt, lit≤ tt)
form_range (NotRising at) = (lit≤ tt, lit≤ tt)
form_range (LeftOver at) = (lit≤ tt, lit≤ tt)

form_numbers_lem : (f : Form) → ShortForm f → (form_code f % 256 ≡ form_number f) × (form_code f / 256 ≡ form_offset f)
unfolding form_code
form_numbers_lem f h = let r = form_range f in (omega (arith, r.1), omega (arith, r.1))

one_form_lem : (f g : Form) → ShortForm f → ShortForm g → form_code f ≡ form_code g → f ≡ g
one_form_lem f g h k e =
    let a = form_numbers_lem f h in
    let b = form_numbers_lem g k in
    let n : form_number f ≡ form_number g = sym a.0 ∙ ap (λ c. c % 256) e ∙ b.0 in
    let at : form_offset f ≡ form_offset g = sym a.1 ∙ ap (λ c. c / 256) e ∙ b.1 in
    same_form f g n at

-- A form stands in the file or at its end, and past the longest file it stands at the first byte that is too many.

form_within : (s : List ℕ) (f : Form) → parse s ≡ form f → form_offset f ≤ length s
form_within s (EndsEarly at) e = omega (arith, ends_early_lem s e refl)
form_within s (BadCount at) e = omega (arith, (bad_byte s e (lit≤ tt) (lit≤ tt)).0)
form_within s (BadNumber at) e = omega (arith, (bad_byte s e (lit≤ tt) (lit≤ tt)).0)
form_within s (NotRising at) e = omega (arith, (bad_byte s e (lit≤ tt) (lit≤ tt)).0)
form_within s (LeftOver at) e = omega (arith, ((left_over_lem s at).0 e).0)

form_fits : (file : List ℕ) (f : Form) → parse file ≡ form f → ShortForm f
form_fits file f e =
    let w = form_within (take (image_size + 1) file) f (sym (longer_same file) ∙ e) in
    let k = length-take (image_size + 1) file in
    omega arith

-- What comes of writing. A file that is written is some plan's, and none is longer than the longest.

written_byte : (w : Result ℕ Unwritten) → Byte (written_number w)
written_byte (Err NoFile) = lit≤ tt
written_byte (Err NoRoom) = lit≤ tt
written_byte (Ok size) = lit≤ tt

written_numbers_lem : (w : Result ℕ Unwritten) → ShortFile w → (written_code w % 256 ≡ written_number w) × (written_code w / 256 ≡ written_length w)
unfolding written_code
written_numbers_lem w h = let b = written_byte w in (omega arith, omega arith)

written_of : ℕ → ℕ → Result ℕ Unwritten
written_of n size = first_with written_number (Ok size) (Err NoFile ∷ Err NoRoom ∷ Ok size ∷ []) n

written_back : (w : Result ℕ Unwritten) → written_of (written_number w) (written_length w) ≡ w
unfolding written_of first_with
written_back (Err NoFile) = refl
written_back (Err NoRoom) = refl
written_back (Ok size) = refl

one_written_lem : (w x : Result ℕ Unwritten) → ShortFile w → ShortFile x → written_code w ≡ written_code x → w ≡ x
one_written_lem w x h k e =
    let a = written_numbers_lem w h in
    let b = written_numbers_lem x k in
    let n : written_number w ≡ written_number x = sym a.0 ∙ ap (λ c. c % 256) e ∙ b.0 in
    let size : written_length w ≡ written_length x = sym a.1 ∙ ap (λ c. c / 256) e ∙ b.1 in
    sym (written_back w) ∙ rw (n, size) (written_back x)

file_fits : (image : List ℕ) (room : ℕ) → length image ≡ image_size → ShortFile (written image room)
unfolding file_in
file_fits image room long = go (outcome image room)
  where
    go : {w : Result ℕ Unwritten} → Outcome image room w → ShortFile w
    go (unread n) = lit≤ tt
    go (short y h) = lit≤ tt
    go (full y h) = let ok = (stands_for image long y).0 in omega (arith, readable_fits (plan_of image) ok)

-- Verdicts: no rule goes over more rows than a byte can count, and none that is broken has the number 0, which stands for accepted.

rows_few : (l : List Rule) → All (λ rule. rule.rows ≤ 256) l → (k : ℕ) → (get_or l k no_rule).rows ≤ 256
unfolding All
rows_few [] w k = lit≤ tt
rows_few (rule ∷ l) w zero = w.0
rows_few (rule ∷ l) w (suc k) = rows_few l w.1 k

verdict_rule : (p : Plan) → rule_number (verdict p) ≤ 55
unfolding rules
verdict_rule p = le_trans (number_listed p) (lit≤ tt)

verdict_row : (p : Plan) → Readable p → Byte (rule_row (verdict p))
unfolding All rules rule_of rule_row
verdict_row p R = of (verdict p) (says p)
  where
    tracks : length p.tracks ≤ 256
    tracks = let few = R.tracks.few in omega arith

    signals : length p.signals ≤ 256
    signals = let few = R.signals.few in omega arith

    routes : length p.routes ≤ 256
    routes = let few = R.routes.few in omega arith

    entries : length p.entries ≤ 256
    entries = let few = R.entries.few in omega arith

    of : (v : Verdict) → Says p v → Byte (rule_row v)
    of (Ok u) w = lit≤ tt
    of (Err b) w =
        let few = rows_few (no_rule ∷ rules p)
        (lit≤ tt, (tracks, (tracks, (tracks, (signals, (entries, (routes, (routes, (routes, (routes, (routes, (routes, (entries, tt)))))))))))))
        b.rule in
        omega (arith, w.inside)

verdict_of : ℕ → ℕ → Verdict
verdict_of zero row = Ok tt
verdict_of (suc k) row = broken (suc k) row

verdict_back : (p : Plan) → verdict_of (rule_number (verdict p)) (rule_row (verdict p)) ≡ verdict p
unfolding verdict_of rule_of rule_number rule_row
verdict_back p = of (verdict p) (says p)
  where
    of : (v : Verdict) → Says p v → verdict_of (rule_number v) (rule_row v) ≡ v
    of (Ok u) w = refl
    of (Err b) w = numbered b.rule refl w.inside
      where
        numbered : (k : ℕ) → k ≡ b.rule → b.row < (rule_of p b.rule).rows → verdict_of b.rule b.row ≡ Err b
        numbered zero e h = absurd (not-suc-le-zero {n = b.row} (rw (← e) at h))
        numbered (suc k) e h = rw (← e) refl

verdict_numbers_lem : (p : Plan) → Readable p → unpacked 2 (verdict_code (verdict p)) ≡ (200 + rule_number (verdict p)) ∷ rule_row (verdict p) ∷ []
unfolding All verdict_code
verdict_numbers_lem p R = let h = verdict_rule p in unpacked_packed ((200 + rule_number (verdict p)) ∷ rule_row (verdict p) ∷ []) (omega arith, (verdict_row p R, tt))

one_verdict_lem : (p q : Plan) → Readable p → Readable q → verdict_code (verdict p) ≡ verdict_code (verdict q) → verdict p ≡ verdict q
one_verdict_lem p q R S e =
    let same = sym (verdict_numbers_lem p R) ∙ ap (unpacked 2) e ∙ verdict_numbers_lem q S in
    let number : 200 + rule_number (verdict p) ≡ 200 + rule_number (verdict q) = ap (λ l. get_or l 0 0) same in
    let rule : rule_number (verdict p) ≡ rule_number (verdict q) = omega arith in
    let row : rule_row (verdict p) ≡ rule_row (verdict q) = ap (λ l. get_or l 1 0) same in
    sym (verdict_back p) ∙ rw (rule, row) (verdict_back q)

-- The sorts lie apart: each byte is of the one sort that these bounds say.

sort_of : ℕ → Sort
sort_of b =
    cond (ltb b 1) nothing (cond (ltb b 6) aForm (cond (ltb b 7) too_little (cond (ltb b 8) no_file (cond (ltb b 120) an_answer (cond (ltb b 200) aLength aVerdict)))))

answer_between : (b : ℕ) → Tells an_answer b → (10 ≤ b) × (b ≤ 104)
answer_between b (inl w) = (w.0, omega (arith, w.1))
answer_between b (inr (inl w)) = (omega (arith, w.0), omega (arith, w.1))
answer_between b (inr (inr w)) = (omega (arith, w.0), w.1)

sort_told : (s : Sort) (b : ℕ) → Tells s b → sort_of b ≡ s
unfolding sort_of
sort_told nothing b h = rw h
sort_told aForm b h = rw (le-ltb b 1 h.0, lt-ltb b 6 (omega (arith, h.1)))
sort_told too_little b h = rw h
sort_told no_file b h = rw h
sort_told an_answer b h =
    let (low, high) = answer_between b h in
    rw (le-ltb b 1 (omega arith), le-ltb b 6 (omega arith), le-ltb b 7 (omega arith), le-ltb b 8 (omega arith), lt-ltb b 120 (omega arith))
sort_told aLength b h = rw h
sort_told aVerdict b h =
    let low = h.0 in
    rw (le-ltb b 1 (omega arith), le-ltb b 6 (omega arith), le-ltb b 7 (omega arith), le-ltb b 8 (omega arith), le-ltb b 120 (omega arith), le-ltb b 200 low)

-- an answer's number
number_range : (a : Answer) → Tells an_answer (answer_number a)
unfolding refusal_number harm_number deed_number answer_number
number_range (Refused IllFormed) = inl (lit≤ tt, lit≤ tt)
number_range (Refused BadEvent) = inl (lit≤ tt, lit≤ tt)
number_range (Refused NotRed) = inl (lit≤ tt, lit≤ tt)
number_range (Refused (Occupied track train)) = inl (lit≤ tt, lit≤ tt)
number_range (Refused (Held point)) = inl (lit≤ tt, lit≤ tt)
number_range (Refused NotGreen) = inl (lit≤ tt, lit≤ tt)
number_range (Refused (HomeOccupied track)) = inl (lit≤ tt, lit≤ tt)
number_range (Refused TrainIn) = inl (lit≤ tt, lit≤ tt)
number_range (Refused TrainOut) = inl (lit≤ tt, lit≤ tt)
number_range (Refused (Red signal)) = inl (lit≤ tt, lit≤ tt)
number_range (Accident (Collision track)) = inr (inl (lit≤ tt, lit≤ tt))
number_range (Accident (RunThrough track)) = inr (inl (lit≤ tt, lit≤ tt))
number_range (Accident (Derailment point)) = inr (inl (lit≤ tt, lit≤ tt))
number_range (Done (Granted route)) = inr (inr (lit≤ tt, lit≤ tt))
number_range (Done (Cancelled route)) = inr (inr (lit≤ tt, lit≤ tt))
number_range (Done (Entered train track)) = inr (inr (lit≤ tt, lit≤ tt))
number_range (Done (Moved train from to)) = inr (inr (lit≤ tt, lit≤ tt))
number_range (Done (Left train from)) = inr (inr (lit≤ tt, lit≤ tt))

number_byte : (a : Answer) → Byte (answer_number a)
number_byte a = omega (arith, (answer_between (answer_number a) (number_range a)).1)

answer_number_lem : (a : Answer) → answer_code a % 256 ≡ answer_number a
unfolding packed answer_code
answer_number_lem a = let h = number_byte a in omega arith

-- What Decoding.antt states.

fitting : Fitting
unfolding All
fitting = record {
  first = first_fits;
  events = events_fit;
  answers = λ p R cells holds b event w. let σ = state_in cells holds in (number_byte (answer p σ event), values_fit p R σ (trains_fit cells b) event w);
  forms = form_fits;
  files = file_fits;
  rules = verdict_rule;
  rows = verdict_row;
}

-- of what sort the number of a writer's answer is
written_sort_lem : (w : Result ℕ Unwritten) → Tells (written_sort w) (written_code w % 256)
unfolding written_code
written_sort_lem (Err NoFile) = refl
written_sort_lem (Err NoRoom) = refl
written_sort_lem (Ok size) = omega arith

apart : Apart
unfolding form_code
apart = record {
  one = λ s t b h k. sym (sort_told s b h) ∙ sort_told t b k;
  forms = λ f. let r = form_range f in let e : form_code f % 256 ≡ form_number f = omega (arith, r.1) in rw e r;
  answers = λ a. rw (answer_number_lem a) (number_range a);
  written = written_sort_lem;
  verdicts = λ p. let e = verdict_coded p in let h = verdict_rule p in (omega arith, omega arith);
}

decoding : Decoding
unfolding answer_code
decoding = record {
  number = answer_number_lem;
  values = λ a w. unpacked_packed (answer_number a ∷ answer_values a) w;
  code = λ a b n v. ap answer_code (same_said a b n v);
  same = same_said;
  one_answer = one_answer_lem;
  form_numbers = form_numbers_lem;
  one_form = one_form_lem;
  written_numbers = written_numbers_lem;
  one_written = one_written_lem;
  verdict_numbers = verdict_numbers_lem;
  one_verdict = one_verdict_lem;
}

pub decoded : Decoded
decoded = record {
  fitting = fitting;
  apart = apart;
  decoding = decoding;
  back = λ p R cells holds bytes b w. decoding.values _ (fitting.answers p R cells holds b (first_event bytes) (fitting.first bytes w));
}
