-- Written by .ci/contracts --write: for each function of src/lib.rt, that any two results that its contract allows are the same.
use Rattle.std.specs.Prelude.{ℕ, ◌≡◌ as ◌is◌, List, Result, ◌≡◌}
use Rattle.laws.specs.Once.{equal_once}
use Rattle.events.specs.declared.Refusal.{Refusal}
use Rattle.laws.specs.Written.{wrote_once, Wrote}
use Rattle.events.specs.declared.Harm.{Harm}
use Rattle.events.specs.declared.Deed.{Deed}
use Rattle.events.specs.declared.Answer.{Answer}
use Rattle.rules.specs.declared.Broken.{Broken}
use Rattle.reading.specs.declared.Form.{Form}
use Rattle.events.specs.declared.Answer.TheVariants.{Refused, Accident, Done}
use Rattle.lines.specs.Lines.{answer_line, verdict_line, form_line, line_most}

pub line_most_once : (r r₂ : ℕ)
    → (r ≡ line_most)
    → (r₂ ≡ line_most)
    → r is r₂
line_most_once r r₂ by_one by_other = equal_once _ _ _ by_one by_other

pub refusal_line_once : (refusal : Refusal) (out : List ℕ) (at r r₂ : ℕ) (out' out'' : List ℕ)
    → (Wrote (answer_line (Refused refusal)) out at out' r)
    → (Wrote (answer_line (Refused refusal)) out at out'' r₂)
    → (out' is out'') × (r is r₂)
refusal_line_once refusal out at r r₂ out' out'' by_one by_other = wrote_once _ _ _ _ _ _ _ by_one by_other

pub harm_line_once : (harm : Harm) (out : List ℕ) (at r r₂ : ℕ) (out' out'' : List ℕ)
    → (Wrote (answer_line (Accident harm)) out at out' r)
    → (Wrote (answer_line (Accident harm)) out at out'' r₂)
    → (out' is out'') × (r is r₂)
harm_line_once harm out at r r₂ out' out'' by_one by_other = wrote_once _ _ _ _ _ _ _ by_one by_other

pub deed_line_once : (deed : Deed) (out : List ℕ) (at r r₂ : ℕ) (out' out'' : List ℕ)
    → (Wrote (answer_line (Done deed)) out at out' r)
    → (Wrote (answer_line (Done deed)) out at out'' r₂)
    → (out' is out'') × (r is r₂)
deed_line_once deed out at r r₂ out' out'' by_one by_other = wrote_once _ _ _ _ _ _ _ by_one by_other

pub answer_line_once : (answer : Answer) (out : List ℕ) (at r r₂ : ℕ) (out' out'' : List ℕ)
    → (Wrote (answer_line answer) out at out' r)
    → (Wrote (answer_line answer) out at out'' r₂)
    → (out' is out'') × (r is r₂)
answer_line_once answer out at r r₂ out' out'' by_one by_other = wrote_once _ _ _ _ _ _ _ by_one by_other

pub verdict_line_once : (verdict : Result Unit Broken) (out : List ℕ) (at r r₂ : ℕ) (out' out'' : List ℕ)
    → (Wrote (verdict_line verdict) out at out' r)
    → (Wrote (verdict_line verdict) out at out'' r₂)
    → (out' is out'') × (r is r₂)
verdict_line_once verdict out at r r₂ out' out'' by_one by_other = wrote_once _ _ _ _ _ _ _ by_one by_other

pub form_line_once : (form : Form) (out : List ℕ) (at r r₂ : ℕ) (out' out'' : List ℕ)
    → (Wrote (form_line form) out at out' r)
    → (Wrote (form_line form) out at out'' r₂)
    → (out' is out'') × (r is r₂)
form_line_once form out at r r₂ out' out'' by_one by_other = wrote_once _ _ _ _ _ _ _ by_one by_other
