-- The two lent arrays hold a state and nothing more: all zeros are the fresh state, and arrays that hold the same state are the same. So a contract
-- that says which state they hold says what each of their cells holds. Assumes nothing.
use mathlib.Core.Path.{◌≡◌, refl, sym, ap, ◌∙◌}
use mathlib.Core.List.{List, ◌++◌}
use Prim.Native.Nat.{ℕ, ◌+◌, ◌≤◌}
use native.Mathlib.Omega.{arith}
use lib.ListN.{length, drop, replicate, take-append-drop, length-drop}
use lib.Seq.{take_all, drop-drop}
use Rattle.plan.specs.Limits.{most_tracks, most_signals}
use Rattle.state.specs.declared.State.{State}
use Rattle.state.specs.State.{fresh}
use Rattle.state.specs.declared.HoldSet.{HoldSet}
use Rattle.state.specs.Once.{RoutesOnce, LentOnce}
use Rattle.state.specs.Cells.{trains_from, lies_from, signals_from, cells_size, part, trains_in, lies_in, signals_in, state_in}

pub zeros_fresh : state_in (replicate cells_size 0) (replicate most_tracks 0) ≡ fresh
unfolding trains_in lies_in signals_in part fresh
zeros_fresh = refl

-- A part and what comes after it.
part_joins : (from size : ℕ) (cells : List ℕ) → part from size cells ++ drop (from + size) cells ≡ drop from cells
unfolding part
part_joins from size cells = rw (← drop-drop size from cells) (take-append-drop size (drop from cells))

part_last : (from size : ℕ) (cells : List ℕ) → length cells ≤ from + size → part from size cells ≡ drop from cells
unfolding part
part_last from size cells h = take_all size (drop from cells) (rw length-drop (omega arith))

-- The parts one after the other are the cells: nothing stands between two of them or after the last.
parts_cover : (cells : List ℕ) → length cells ≡ cells_size → trains_in cells ++ (lies_in cells ++ signals_in cells) ≡ cells
unfolding trains_in lies_in signals_in
parts_cover cells n =
    ap (λ (l : List ℕ). trains_in cells ++ l) (ap (λ (l : List ℕ). lies_in cells ++ l) (part_last signals_from most_signals cells (omega arith)) ∙ part_joins lies_from most_tracks cells)
    ∙ part_joins trains_from most_tracks cells

pub lent_once : LentOnce
lent_once σ cells other holds others n m e f =
    let parts : State → List ℕ = λ τ. τ.trains ++ (τ.lies ++ τ.signals) in
    (sym (parts_cover cells n) ∙ ap parts (e ∙ sym f) ∙ parts_cover other m, ap (λ (τ : State). τ.holds) (e ∙ sym f))

pub routes_once : RoutesOnce
routes_once routes x y p q = ap holding (p ∙ sym q)
  where
    holding : ℕ → HoldSet
    holding n = record { routes = n }
