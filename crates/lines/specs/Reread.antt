-- What can be read back from a printed line: the numbers that stand in it, and so what the line shows. Proved in proofs/Reread.antt. What can be read from a
-- code stands in codes/specs/Decoding.antt.
use Rattle.rules.specs.Verdict.{Verdict}
use Rattle.std.specs.Prelude.{◌≡◌, Bool, not, cond, ◌&&◌, List, [], ◌∷◌, ◌++◌, ℕ, ◌+◌, ◌-◌, ◌*◌, ◌^◌, ◌<◌, length, take, ltb, None, Option, Some, Err, Ok}
use Rattle.laws.specs.Lists.{All}
use Rattle.reading.specs.declared.Form.{Form}
use Rattle.reading.specs.Reading.{form_number, form_offset}
use Rattle.events.specs.declared.Answer.{Answer}
use Rattle.events.specs.Answers.{answer_values}
use Rattle.lines.specs.Decimal.{digit, number_most}
use Rattle.lines.specs.Lines.{answer_words, table_number, answer_line, verdict_line, form_line}

-- The numbers in bytes: each run of digits is one.

abbrev pub is_digit : ℕ → Bool
is_digit b = not (ltb b (digit 0)) && ltb b (digit 10)

-- a run of digits that has begun, with the number that it stands for so far, or none
abbrev pub so_far : Option ℕ → ℕ
so_far (Some n) = n
so_far None = 0

-- the run is over: its number comes first
abbrev pub ended : Option ℕ → List ℕ → List ℕ
ended (Some n) numbers = n ∷ numbers
ended None numbers = numbers

unfoldable pub numbers_from : Option ℕ → List ℕ → List ℕ
numbers_from run [] = ended run []
numbers_from run (b ∷ bytes) = cond (is_digit b) (numbers_from (Some (so_far run * 10 + (b - digit 0))) bytes) (ended run (numbers_from None bytes))

unfoldable pub numbers_in : List ℕ → List ℕ
numbers_in bytes = numbers_from None bytes

-- The numbers that lines show. That of an answer shows one for each of its words.

abbrev pub answer_numbers : Answer → List ℕ
answer_numbers a = take (length (answer_words a)) (table_number a ++ answer_values a)

abbrev pub verdict_numbers : Verdict → List ℕ
verdict_numbers (Ok u) = []
verdict_numbers (Err b) = b.rule ∷ b.row ∷ []

abbrev pub form_numbers : Form → List ℕ
form_numbers f = form_number f ∷ form_offset f ∷ []

-- they have no more digits than there is room for
abbrev pub Printable : List ℕ → Type 0
Printable numbers = All (λ n. n < 10 ^ number_most) numbers

pub record Reread : Type 0 where
  -- every number of eight bytes, all that the code can hold, is printed whole
  pub held : (numbers : List ℕ) → All (λ n. n < 256 ^ 8) numbers → Printable numbers
  -- a line gives back the numbers that it shows
  pub answers : (a : Answer) → Printable (answer_numbers a) → numbers_in (answer_line a) ≡ answer_numbers a
  pub verdicts : (v : Verdict) → Printable (verdict_numbers v) → numbers_in (verdict_line v) ≡ verdict_numbers v
  pub forms : (f : Form) → Printable (form_numbers f) → numbers_in (form_line f) ≡ form_numbers f
  -- answers with the same line show the same words and the same numbers
  pub shown : (a b : Answer) → Printable (answer_numbers a) → Printable (answer_numbers b) → answer_line a ≡ answer_line b
      → (answer_words a ≡ answer_words b) × (answer_numbers a ≡ answer_numbers b)
  -- every number and every value of an answer is shown, so that they are the same answer; and so for verdicts and forms
  pub whole : (a : Answer) → answer_numbers a ≡ table_number a ++ answer_values a
  pub one_answer : (a b : Answer) → Printable (answer_numbers a) → Printable (answer_numbers b) → answer_line a ≡ answer_line b → a ≡ b
  pub one_verdict : (v w : Verdict) → Printable (verdict_numbers v) → Printable (verdict_numbers w) → verdict_line v ≡ verdict_line w → v ≡ w
  pub one_form : (f g : Form) → Printable (form_numbers f) → Printable (form_numbers g) → form_line f ≡ form_line g → f ≡ g
