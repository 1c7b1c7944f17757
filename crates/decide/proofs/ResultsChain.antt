-- Written by .ci/contracts --write: for each function of src/chain.rt, that any two results that its contract allows are the same.
use Rattle.std.specs.Prelude.{Bool, Result, ◌≡◌ as ◌is◌, Option, ◌≡◌}
use Rattle.laws.specs.Once.{equal_once}
use Rattle.decide.specs.Chain.{ensured, stopped}

pub ensure_once : (E : Type 0) (holds : Bool) (stop : E) (r r₂ : Result Unit E)
    → (r ≡ ensured holds stop)
    → (r₂ ≡ ensured holds stop)
    → r is r₂
ensure_once E holds stop r r₂ by_one by_other = equal_once _ _ _ by_one by_other

pub stop_at_once : (E : Type 0) (found : Option E) (r r₂ : Result Unit E)
    → (r ≡ stopped found)
    → (r₂ ≡ stopped found)
    → r is r₂
stop_at_once E found r r₂ by_one by_other = equal_once _ _ _ by_one by_other
