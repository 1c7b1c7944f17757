-- Written by .ci/contracts --write: for each function of src/limits.rt, that any two results that its contract allows are the same.
use Rattle.std.specs.Prelude.{List, ℕ, ◌≡◌ as ◌is◌, ◌≡◌}
use Rattle.laws.specs.Once.{equal_once}
use Rattle.plan.specs.Limits.{limit_table}

pub limits_once : (r r₂ : List ℕ)
    → (r ≡ limit_table)
    → (r₂ ≡ limit_table)
    → r is r₂
limits_once r r₂ by_one by_other = equal_once _ _ _ by_one by_other
