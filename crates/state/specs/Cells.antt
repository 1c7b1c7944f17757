-- The state as the code is lent it: cells, in which trains, lies and signals stand one after the other, and the holds, which are wider, apart. What
-- the numbers in them mean stands in State.antt. The code's constants stand in src/cells.rt, and its function `offsets` ties the two. That the two
-- arrays hold a state and nothing more, and that all zeros are the fresh one, is shown in proofs/Lent.antt.
use Rattle.std.specs.Prelude.{List, [], ◌∷◌, ℕ, ◌+◌, take, drop}
use Rattle.plan.specs.Limits.{most_tracks, most_signals}
use Rattle.state.specs.declared.State.{State}
use Rattle.state.specs.State.{state_of}

-- Where each part starts, and where the last one ends.

abbrev pub trains_from : ℕ
trains_from = 0

abbrev pub lies_from : ℕ
lies_from = trains_from + most_tracks

abbrev pub signals_from : ℕ
signals_from = lies_from + most_tracks

abbrev pub cells_size : ℕ
cells_size = signals_from + most_signals

-- All of them, in the order in which they stand above.
abbrev pub offset_table : List ℕ
offset_table = trains_from ∷ lies_from ∷ signals_from ∷ cells_size ∷ []

-- so many cells from a place on
unfoldable pub part : ℕ → ℕ → List ℕ → List ℕ
part from size cells = take size (drop from cells)

unfoldable pub trains_in : List ℕ → List ℕ
trains_in cells = part trains_from most_tracks cells

unfoldable pub lies_in : List ℕ → List ℕ
lies_in cells = part lies_from most_tracks cells

unfoldable pub signals_in : List ℕ → List ℕ
signals_in cells = part signals_from most_signals cells

-- the state that the two arrays hold
abbrev pub state_in : List ℕ → List ℕ → State
state_in cells holds = state_of (trains_in cells) (lies_in cells) holds (signals_in cells)
