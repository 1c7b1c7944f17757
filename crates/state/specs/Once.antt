-- What a contract that speaks of hold sets, or of the state in the two lent arrays, leaves open: nothing (proofs/Lent.antt).
use Rattle.std.specs.Prelude.{◌≡◌, List, ℕ, length}
use Rattle.laws.specs.Once.{Once}
use Rattle.state.specs.declared.HoldSet.{HoldSet}
use Rattle.state.specs.declared.State.{State}
use Rattle.state.specs.Cells.{cells_size, state_in}

-- a hold set is its routes, and has no other field
abbrev pub RoutesOnce : Type 0
RoutesOnce = (routes : ℕ) → Once (λ (set : HoldSet). set.routes ≡ routes)

-- two pairs of arrays that hold the same state are the same in every cell
abbrev pub LentOnce : Type 0
LentOnce =
    (σ : State) (cells other : List ℕ) (holds others : List ℕ) → length cells ≡ cells_size → length other ≡ cells_size
    → state_in cells holds ≡ σ → state_in other others ≡ σ → (cells ≡ other) × (holds ≡ others)
