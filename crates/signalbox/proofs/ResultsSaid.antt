-- Written by .ci/contracts --write: for each function of src/said.rt, that any two results that its contract allows are the same.
use Rattle.std.specs.Prelude.{List, ℕ, length, ◌≡◌ as ◌is◌, ◌≡◌}
use Rattle.events.specs.declared.Event.{Event}
use Rattle.state.specs.Cells.{cells_size, state_in}
use Rattle.state.proofs.Lent.{lent_once}
use Rattle.laws.specs.Written.{wrote_once, Wrote}
use Rattle.plan.specs.Image.{plan_of}
use Rattle.events.specs.Decide.{decided}
use Rattle.events.specs.After.{after}
use Rattle.lines.specs.Lines.{answer_line}

pub say_once : (image cells holds : List ℕ) (event : Event) (out : List ℕ) (at r r₂ : ℕ) (cells' cells'' holds' holds'' out' out'' : List ℕ)
    → length cells' is cells_size
    → length cells'' is cells_size
    → ((state_in cells' holds' ≡ after (plan_of image) (state_in cells holds) (decided (plan_of image) (state_in cells holds) event)) × (Wrote (answer_line (decided (plan_of image) (state_in cells holds) event)) out at out' r))
    → ((state_in cells'' holds'' ≡ after (plan_of image) (state_in cells holds) (decided (plan_of image) (state_in cells holds) event)) × (Wrote (answer_line (decided (plan_of image) (state_in cells holds) event)) out at out'' r₂))
    → ((cells' is cells'') × (holds' is holds'')) × ((out' is out'') × (r is r₂))
say_once image cells holds event out at r r₂ cells' cells'' holds' holds'' out' out'' sized sized_other by_one by_other = (lent_once _ _ _ _ _ sized sized_other by_one.0 by_other.0, wrote_once _ _ _ _ _ _ _ by_one.1 by_other.1)
