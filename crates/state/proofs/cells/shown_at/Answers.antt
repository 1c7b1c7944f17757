-- `cells::shown_at`: the part has a cell for each.
use native.Mathlib.Omega.{arith}
use Rattle.plan.specs.Limits.{most_signals}
use Rattle.state.specs.Cells.{signals_from, signals_in}
use Rattle.state.proofs.Parts.{part_long}
use Rattle.state.proofs.cells.shown_at.Goals as goal

pub bounds-signals_of-signal : goal.bounds-signals_of-signal
unfolding signals_in
bounds-signals_of-signal c = omega (arith, c.requires, part_long signals_from most_signals _ _ c.signals_of.ensures (omega arith))
