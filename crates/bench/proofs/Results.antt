-- Written by .ci/contracts --write: for each function of src/main.rt, that any two results that its contract allows are the same.
use Rattle.std.specs.Prelude.{List, ℕ, ◌≡◌ as ◌is◌, length}
use Rattle.laws.specs.Written.{wrote_once, Wrote}
use Rattle.state.specs.Cells.{cells_size, state_in}
use Rattle.state.proofs.Lent.{lent_once}
use Rattle.bench.proofs.Served.{ended_once}
use Rattle.std.proofs.Common.{refl}
use Rattle.reading.specs.Reading.{parse}
use Rattle.demands.specs.Session.{first_line}
use Rattle.bench.specs.Serving.{Ended}

pub first_line_once : (plan out : List ℕ) (r r₂ : ℕ) (out' out'' : List ℕ)
    → (Wrote (first_line (parse plan)) out 0 out' r)
    → (Wrote (first_line (parse plan)) out 0 out'' r₂)
    → (out' is out'') × (r is r₂)
first_line_once plan out r r₂ out' out'' by_one by_other = wrote_once _ _ _ _ _ _ _ by_one by_other

pub last_line_once : (plan cells holds unfinished out : List ℕ) (r r₂ : ℕ) (cells' cells'' holds' holds'' unfinished' unfinished'' out' out'' : List ℕ)
    → length cells' is cells_size
    → length cells'' is cells_size
    → (Ended (parse plan) (state_in cells holds) unfinished out r (state_in cells' holds') unfinished' out')
    → (Ended (parse plan) (state_in cells holds) unfinished out r₂ (state_in cells'' holds'') unfinished'' out'')
    → (r is r₂) × ((cells' is cells'') × (holds' is holds'')) × (unfinished' is unfinished'') × (out' is out'')
last_line_once plan cells holds unfinished out r r₂ cells' cells'' holds' holds'' unfinished' unfinished'' out' out'' sized sized_other by_one by_other = (let told = ended_once _ _ _ _ _ _ _ _ _ _ _ _ by_one by_other in (told.0, lent_once _ _ _ _ _ sized sized_other told.1 refl, told.2, told.3))
