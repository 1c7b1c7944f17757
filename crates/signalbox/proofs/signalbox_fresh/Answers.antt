-- `signalbox::signalbox_fresh`: all zeros are the fresh state, and no byte.
use mathlib.Core.Path.{refl}
use Rattle.state.proofs.Lent.{zeros_fresh}
use Rattle.events.specs.Events.{unfinished_cells}
use Rattle.signalbox.proofs.signalbox_fresh.Goals as goal

pub returns : goal.returns
unfolding unfinished_cells
returns c = record { state = zeros_fresh; none = refl }
