-- Written by .ci/contracts --write: for each function of src/cells.rt, that any two results that its contract allows are the same.
use Rattle.std.specs.Prelude.{List, ℕ, ◌≡◌ as ◌is◌, ◌≡◌, get_or}
use Rattle.laws.specs.Once.{equal_once}
use Rattle.state.specs.Cells.{offset_table, trains_in, lies_in, signals_in}

pub offsets_once : (r r₂ : List ℕ)
    → (r ≡ offset_table)
    → (r₂ ≡ offset_table)
    → r is r₂
offsets_once r r₂ by_one by_other = equal_once _ _ _ by_one by_other

pub train_at_once : (cells : List ℕ) (track r r₂ : ℕ)
    → (r ≡ get_or (trains_in cells) track 0)
    → (r₂ ≡ get_or (trains_in cells) track 0)
    → r is r₂
train_at_once cells track r r₂ by_one by_other = equal_once _ _ _ by_one by_other

pub lie_at_once : (cells : List ℕ) (point r r₂ : ℕ)
    → (r ≡ get_or (lies_in cells) point 0)
    → (r₂ ≡ get_or (lies_in cells) point 0)
    → r is r₂
lie_at_once cells point r r₂ by_one by_other = equal_once _ _ _ by_one by_other

pub shown_at_once : (cells : List ℕ) (signal r r₂ : ℕ)
    → (r ≡ get_or (signals_in cells) signal 0)
    → (r₂ ≡ get_or (signals_in cells) signal 0)
    → r is r₂
shown_at_once cells signal r r₂ by_one by_other = equal_once _ _ _ by_one by_other

pub trains_of_once : (cells r r₂ : List ℕ)
    → (r ≡ trains_in cells)
    → (r₂ ≡ trains_in cells)
    → r is r₂
trains_of_once cells r r₂ by_one by_other = equal_once _ _ _ by_one by_other

pub lies_of_once : (cells r r₂ : List ℕ)
    → (r ≡ lies_in cells)
    → (r₂ ≡ lies_in cells)
    → r is r₂
lies_of_once cells r r₂ by_one by_other = equal_once _ _ _ by_one by_other

pub signals_of_once : (cells r r₂ : List ℕ)
    → (r ≡ signals_in cells)
    → (r₂ ≡ signals_in cells)
    → r is r₂
signals_of_once cells r r₂ by_one by_other = equal_once _ _ _ by_one by_other
