-- What the code's closures answer, at the numbers that a call can pass.
use Rattle.std.specs.Prelude.{◌≡◌, ℕ, zero, suc, ◌<◌, Bool, cond, List, length, get_or, ltb, drop, Err, Ok, Result}
use Rattle.reading.specs.Reading.{Got, form, got, Reader, count}
use Rattle.reading.specs.declared.Form.{Form}
use Rattle.reading.specs.declared.Form.TheVariants.{EndsEarly}

-- The number at an offset.
abbrev pub byte_at : List ℕ → ℕ → Result ℕ Form
byte_at file at = cond (ltb at (length file)) (Ok (get_or file at 0)) (Err (EndsEarly at))

-- A closure tests a byte as a definition does.
abbrev pub IsTest : (ℕ → Bool → Type 0) → (ℕ → Bool) → Type 0
IsTest post test = (found : ℕ) (answer : Bool) → found < 256 → post found answer → answer ≡ test found

-- A step reads one thing, at an offset and with the least number that is allowed: where it ends and what the next one's least number is, or a form.
abbrev pub Step : Type 0
Step = ℕ → ℕ → Result (ℕ × ℕ) Form

-- what a step answers for a reader, where the value that was read says what the next one's least number is
abbrev pub past : {A : Type 0} → (A → ℕ) → Got A → Result (ℕ × ℕ) Form
past next (form f) = Err f
past next (got a p rest) = Ok (p, next a)

unfoldable pub stepped : {A : Type 0} → (ℕ → Reader A) → (A → ℕ) → List ℕ → Step
stepped one next file at least = past next (one least at (drop at file))

abbrev pub IsStep : (ℕ → ℕ → Result (ℕ × ℕ) Form → Type 0) → Step → Type 0
IsStep post step = (at least : ℕ) (answer : Result (ℕ × ℕ) Form) → post at least answer → answer ≡ step at least

-- .. and where any number may follow
abbrev pub freed : Result ℕ Form → Result (ℕ × ℕ) Form
freed (Err f) = Err f
freed (Ok p) = Ok (p, 0)

-- A step again and again: where the last thing ends, or the first form.
abbrev pub go_on : Result (ℕ × ℕ) Form → (ℕ → ℕ → Result ℕ Form) → Result ℕ Form
go_on (Err f) rest = Err f
go_on (Ok p) rest = rest p.0 p.1

unfoldable pub repeated : Step → ℕ → ℕ → ℕ → Result ℕ Form
repeated step zero at least = Ok at
repeated step (suc k) at least = go_on (step at least) (λ p next. repeated step k p next)

-- .. as often as the count before the things says
abbrev pub as_often : Got ℕ → (ℕ → ℕ → Result ℕ Form) → Result ℕ Form
as_often (form f) rest = Err f
as_often (got k at bytes) rest = rest k at

unfoldable pub counted_steps : Step → ℕ → ℕ → List ℕ → ℕ → Result ℕ Form
counted_steps step least most file from = as_often (count least most from (drop from file)) (λ k at. repeated step k at 0)
