-- Written by .ci/contracts --write: for each function of src/entries.rt, that any two results that its contract allows are the same.
use Rattle.std.specs.Prelude.{List, ℕ, Bool, ◌≡◌ as ◌is◌, ◌≡◌}
use Rattle.laws.specs.Once.{equal_once}
use Rattle.plan.specs.Image.{plan_of}
use Rattle.rules.specs.Rules.{home_plain, entry_placed, entry_clear}

pub home_plain_once : (image : List ℕ) (signal : ℕ) (r r₂ : Bool)
    → (r ≡ home_plain (plan_of image) signal)
    → (r₂ ≡ home_plain (plan_of image) signal)
    → r is r₂
home_plain_once image signal r r₂ by_one by_other = equal_once _ _ _ by_one by_other

pub entry_placed_once : (image : List ℕ) (entry : ℕ) (r r₂ : Bool)
    → (r ≡ entry_placed (plan_of image) entry)
    → (r₂ ≡ entry_placed (plan_of image) entry)
    → r is r₂
entry_placed_once image entry r r₂ by_one by_other = equal_once _ _ _ by_one by_other

pub entry_cleared_once : (image : List ℕ) (entry : ℕ) (r r₂ : Bool)
    → (r ≡ entry_clear (plan_of image) entry)
    → (r₂ ≡ entry_clear (plan_of image) entry)
    → r is r₂
entry_cleared_once image entry r r₂ by_one by_other = equal_once _ _ _ by_one by_other
