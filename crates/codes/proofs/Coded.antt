-- The code of a refusal that names nothing is its number. A verdict's code is whole: no rule of the list is so high that its number, after the 200, would not
-- fit into a byte.
use mathlib.Core.Path.{◌≡◌, refl}
use mathlib.Core.List.{[], ◌∷◌}
use Prim.Native.Nat.{ℕ, ◌+◌, ◌*◌, ◌%◌, ◌≤◌}
use native.Mathlib.Nat.{le_trans}
use native.Mathlib.Omega.{arith}
use lib.Dec.{lit≤}
use Rattle.plan.specs.Records.{Plan}
use Rattle.rules.specs.Verdict.{rules, verdict, rule_number, rule_row}
use Rattle.rules.proofs.Verdicts.{number_listed}
use Rattle.events.specs.declared.Refusal.{Refusal}
use Rattle.events.specs.declared.Refusal.TheVariants.{IllFormed, BadEvent, NotRed, Occupied, Held, NotGreen, HomeOccupied, TrainIn, TrainOut, Red}
use Rattle.events.specs.declared.Answer.TheVariants.{Refused}
use Rattle.events.specs.Answers.{answer_number, answer_values, refusal_number, refusal_values}
use Rattle.reading.specs.declared.Form.{Form}
use Rattle.reading.specs.declared.Form.TheVariants.{EndsEarly, BadCount, BadNumber, NotRising, LeftOver}
use Rattle.reading.specs.Reading.{form_number}
use Rattle.codes.specs.Codes.{packed, answer_code, verdict_code}

-- the number of a form is a byte
pub form_byte : (form : Form) → form_number form % 256 ≡ form_number form
form_byte (EndsEarly at) = refl
form_byte (BadCount at) = refl
form_byte (BadNumber at) = refl
form_byte (NotRising at) = refl
form_byte (LeftOver at) = refl

pub bare_code : (refusal : Refusal) → ((u train : ℕ) → refusal ≡ Occupied u train → ⊥) → ((point : ℕ) → refusal ≡ Held point → ⊥)
    → ((u : ℕ) → refusal ≡ HomeOccupied u → ⊥) → ((s : ℕ) → refusal ≡ Red s → ⊥)
    → answer_code (Refused refusal) ≡ packed (refusal_number refusal ∷ 0 ∷ 0 ∷ 0 ∷ [])
unfolding answer_code packed answer_number answer_values refusal_values
bare_code IllFormed _ _ _ _ = refl
bare_code BadEvent _ _ _ _ = refl
bare_code NotRed _ _ _ _ = refl
bare_code (Occupied track train) occupied _ _ _ = absurd (occupied track train refl)
bare_code (Held point) _ held _ _ = absurd (held point refl)
bare_code NotGreen _ _ _ _ = refl
bare_code (HomeOccupied track) _ _ home _ = absurd (home track refl)
bare_code TrainIn _ _ _ _ = refl
bare_code TrainOut _ _ _ _ = refl
bare_code (Red signal) _ _ _ red = absurd (red signal refl)

pub verdict_coded : (p : Plan) → verdict_code (verdict p) ≡ 200 + rule_number (verdict p) + 256 * (rule_row (verdict p) % 256)
unfolding rules packed verdict_code
verdict_coded p = let h : rule_number (verdict p) ≤ 55 = le_trans (number_listed p) (lit≤ tt) in omega arith
