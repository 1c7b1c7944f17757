-- Written by .ci/contracts --write: for each function of src/lib.rt, that any two results that its contract allows are the same.
use Rattle.std.specs.Prelude.{List, ℕ, length, ◌≡◌ as ◌is◌, ◌≡◌}
use Rattle.events.specs.declared.Event.{Event}
use Rattle.events.specs.declared.Answer.{Answer}
use Rattle.state.specs.Cells.{cells_size, state_in}
use Rattle.laws.specs.Once.{equal_once}
use Rattle.state.proofs.Lent.{lent_once}
use Rattle.plan.specs.Image.{plan_of}
use Rattle.events.specs.Decide.{decided}
use Rattle.events.specs.After.{after}

pub play_once : (image cells holds : List ℕ) (event : Event) (r r₂ : Answer) (cells' cells'' holds' holds'' : List ℕ)
    → length cells' is cells_size
    → length cells'' is cells_size
    → ((r ≡ decided (plan_of image) (state_in cells holds) event) × (state_in cells' holds' ≡ after (plan_of image) (state_in cells holds) (decided (plan_of image) (state_in cells holds) event)))
    → ((r₂ ≡ decided (plan_of image) (state_in cells holds) event) × (state_in cells'' holds'' ≡ after (plan_of image) (state_in cells holds) (decided (plan_of image) (state_in cells holds) event)))
    → (r is r₂) × ((cells' is cells'') × (holds' is holds''))
play_once image cells holds event r r₂ cells' cells'' holds' holds'' sized sized_other by_one by_other = (equal_once _ _ _ by_one.0 by_other.0, lent_once _ _ _ _ _ sized sized_other by_one.1 by_other.1)
