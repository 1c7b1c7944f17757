-- `signalbox::ready`: the plan is read, then the state is tested.
use mathlib.Core.Bool.{not}
use mathlib.Core.Path.{ap}
use Rattle.state.specs.Cells.{state_in}
use Rattle.signalbox.proofs.Faced.{was_read, way_refused, ill_ready, way_free}
use Rattle.signalbox.proofs.ready.Goals as goal

pub returns-in-Err : goal.returns-in-Err
returns-in-Err c =
    (way_refused c.args.file.now _ c.load.ensures (state_in c.args.cells.now c.args.holds.now) c.in-Err.is, c.load.ensures.1)

pub returns-then-not-well_formed : goal.returns-then-not-well_formed
returns-then-not-well_formed c = (
  ill_ready (was_read c.args.file.now _ c.load.ensures c.in_default.is) (state_in c.args.cells.now c.args.holds.now)
      c.well_formed-2.ensures (ap not c.if-not-well_formed.true),
  c.load.ensures.1,
)

pub returns : goal.returns
returns c = (
  way_free (was_read c.args.file.now _ c.load.ensures c.in_default.is) (state_in c.args.cells.now c.args.holds.now)
      c.well_formed-2.ensures (ap not c.if-not-well_formed.false),
  c.load.ensures.1,
)
