-- Written by .ci/contracts --write: for each function of src/lib.rt, that any two results that its contract allows are the same.
use Rattle.std.specs.Prelude.{ℕ, ◌≡◌ as ◌is◌, Result, ◌≡◌, ◌+◌, ◌*◌, ◌%◌, [], ◌∷◌}
use Rattle.laws.specs.Once.{equal_once}
use Rattle.events.specs.declared.Refusal.{Refusal}
use Rattle.events.specs.declared.Harm.{Harm}
use Rattle.events.specs.declared.Deed.{Deed}
use Rattle.events.specs.declared.Answer.{Answer}
use Rattle.reading.specs.declared.Form.{Form}
use Rattle.writing.specs.declared.Unwritten.{Unwritten}
use Rattle.rules.specs.declared.Broken.{Broken}
use Rattle.events.specs.declared.Answer.TheVariants.{Refused, Accident, Done}
use Rattle.codes.specs.Codes.{packed, answer_code, form_code, verdict_code, written_code}

pub byte_once : (value r r₂ : ℕ)
    → (r ≡ value % 256)
    → (r₂ ≡ value % 256)
    → r is r₂
byte_once value r r₂ by_one by_other = equal_once _ _ _ by_one by_other

pub pack_once : (number first second third r r₂ : ℕ)
    → (r ≡ packed (number ∷ first ∷ second ∷ third ∷ []))
    → (r₂ ≡ packed (number ∷ first ∷ second ∷ third ∷ []))
    → r is r₂
pack_once number first second third r r₂ by_one by_other = equal_once _ _ _ by_one by_other

pub refusal_code_once : (refusal : Refusal) (r r₂ : ℕ)
    → (r ≡ answer_code (Refused refusal))
    → (r₂ ≡ answer_code (Refused refusal))
    → r is r₂
refusal_code_once refusal r r₂ by_one by_other = equal_once _ _ _ by_one by_other

pub harm_code_once : (harm : Harm) (r r₂ : ℕ)
    → (r ≡ answer_code (Accident harm))
    → (r₂ ≡ answer_code (Accident harm))
    → r is r₂
harm_code_once harm r r₂ by_one by_other = equal_once _ _ _ by_one by_other

pub deed_code_once : (deed : Deed) (r r₂ : ℕ)
    → (r ≡ answer_code (Done deed))
    → (r₂ ≡ answer_code (Done deed))
    → r is r₂
deed_code_once deed r r₂ by_one by_other = equal_once _ _ _ by_one by_other

pub answer_code_once : (answer : Answer) (r r₂ : ℕ)
    → (r ≡ answer_code answer)
    → (r₂ ≡ answer_code answer)
    → r is r₂
answer_code_once answer r r₂ by_one by_other = equal_once _ _ _ by_one by_other

pub form_code_once : (form : Form) (r r₂ : ℕ)
    → (r ≡ form_code form)
    → (r₂ ≡ form_code form)
    → r is r₂
form_code_once form r r₂ by_one by_other = equal_once _ _ _ by_one by_other

pub offset_code_once : (number at r r₂ : ℕ)
    → (r ≡ number + 256 * (at % 65536))
    → (r₂ ≡ number + 256 * (at % 65536))
    → r is r₂
offset_code_once number at r r₂ by_one by_other = equal_once _ _ _ by_one by_other

pub written_code_once : (written : Result ℕ Unwritten) (r r₂ : ℕ)
    → (r ≡ written_code written)
    → (r₂ ≡ written_code written)
    → r is r₂
written_code_once written r r₂ by_one by_other = equal_once _ _ _ by_one by_other

pub verdict_code_once : (verdict : Result Unit Broken) (r r₂ : ℕ)
    → (r ≡ verdict_code verdict)
    → (r₂ ≡ verdict_code verdict)
    → r is r₂
verdict_code_once verdict r r₂ by_one by_other = equal_once _ _ _ by_one by_other
