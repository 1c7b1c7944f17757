-- `cells::lie_at`: the part has a cell for each.
use native.Mathlib.Omega.{arith}
use Rattle.plan.specs.Limits.{most_tracks}
use Rattle.state.specs.Cells.{lies_from, lies_in}
use Rattle.state.proofs.Parts.{part_long}
use Rattle.state.proofs.cells.lie_at.Goals as goal

pub bounds-lies_of-point : goal.bounds-lies_of-point
unfolding lies_in
bounds-lies_of-point c = omega (arith, c.requires, part_long lies_from most_tracks _ _ c.lies_of.ensures (omega arith))
