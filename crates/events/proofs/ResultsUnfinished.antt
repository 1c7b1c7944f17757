-- Written by .ci/contracts --write: for each function of src/unfinished.rt, that any two results that its contract allows are the same.
use Rattle.std.specs.Prelude.{List, ℕ, ◌≡◌ as ◌is◌, ◌≡◌, ◌++◌, length, get_or}
use Rattle.laws.specs.Once.{equal_once}
use Rattle.events.specs.declared.Event.{Event}
use Rattle.events.specs.declared.Event.TheVariants.{Unknown}
use Rattle.events.specs.Events.{whole_events, left_over, unfinished_in, unfinished_cells}

pub waiting_once : (unfinished : List ℕ) (r r₂ : ℕ)
    → (r ≡ length (unfinished_in unfinished))
    → (r₂ ≡ length (unfinished_in unfinished))
    → r is r₂
waiting_once unfinished r r₂ by_one by_other = equal_once _ _ _ by_one by_other

pub byte_at_once : (unfinished bytes : List ℕ) (i r r₂ : ℕ)
    → (r ≡ get_or (unfinished_in unfinished ++ bytes) i 0)
    → (r₂ ≡ get_or (unfinished_in unfinished ++ bytes) i 0)
    → r is r₂
byte_at_once unfinished bytes i r r₂ by_one by_other = equal_once _ _ _ by_one by_other

pub whole_count_once : (unfinished bytes : List ℕ) (r r₂ : ℕ)
    → (r ≡ length (whole_events (unfinished_in unfinished ++ bytes)))
    → (r₂ ≡ length (whole_events (unfinished_in unfinished ++ bytes)))
    → r is r₂
whole_count_once unfinished bytes r r₂ by_one by_other = equal_once _ _ _ by_one by_other

pub whole_event_once : (unfinished bytes : List ℕ) (i : ℕ) (r r₂ : Event)
    → (r ≡ get_or (whole_events (unfinished_in unfinished ++ bytes)) i Unknown)
    → (r₂ ≡ get_or (whole_events (unfinished_in unfinished ++ bytes)) i Unknown)
    → r is r₂
whole_event_once unfinished bytes i r r₂ by_one by_other = equal_once _ _ _ by_one by_other

pub keep_once : (unfinished bytes unfinished' unfinished'' : List ℕ)
    → (unfinished' ≡ unfinished_cells (left_over (unfinished_in unfinished ++ bytes)))
    → (unfinished'' ≡ unfinished_cells (left_over (unfinished_in unfinished ++ bytes)))
    → unfinished' is unfinished''
keep_once unfinished bytes unfinished' unfinished'' by_one by_other = equal_once _ _ _ by_one by_other
