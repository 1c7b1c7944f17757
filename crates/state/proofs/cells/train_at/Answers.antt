-- `cells::train_at`: the part has a cell for each.
use native.Mathlib.Omega.{arith}
use Rattle.plan.specs.Limits.{most_tracks}
use Rattle.state.specs.Cells.{trains_from, trains_in}
use Rattle.state.proofs.Parts.{part_long}
use Rattle.state.proofs.cells.train_at.Goals as goal

pub bounds-trains_of-track : goal.bounds-trains_of-track
unfolding trains_in
bounds-trains_of-track c = omega (arith, c.requires, part_long trains_from most_tracks _ _ c.trains_of.ensures (omega arith))
