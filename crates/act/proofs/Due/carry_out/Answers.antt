-- `act::Due::carry_out`: each part comes back as the state after the deed has it, the others as they were.
use Rattle.act.proofs.Acts.{parts_acted}
use Rattle.act.proofs.Due.carry_out.Goals as goal

pub returns : goal.returns
returns c =
    parts_acted _ _ c.args.cells.now c.args.holds.now
    c.trains.new.trains c.lies.new.lies c.signals.new.signals c.told-cells
    c.trains.auto.trains c.lies.auto.lies c.signals.auto.signals
    c.trains.ensures c.lies.ensures c.signals.ensures c.holds.ensures
