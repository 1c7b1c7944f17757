-- `act::act`: a deed is carried out, and nothing else changes anything.
use Rattle.state.specs.Cells.{state_in}
use Rattle.act.proofs.Acts.{nothing_done, deed_done, deed_ready}
use Rattle.act.proofs.act.Goals as goal

pub returns-in_default : goal.returns-in_default
returns-in_default c = nothing_done _ c.args.answer (state_in c.args.cells.now c.args.holds.now) c.in_default.not-Done

pub invariant_of-carry_out : goal.invariant_of-carry_out
invariant_of-carry_out c =
    record { ready = deed_ready _ c.args.answer c.requires.0 c.requires.1 c.in-Done.is }

pub returns-in-Done : goal.returns-in-Done
returns-in-Done c =
    deed_done _ c.args.answer (state_in c.args.cells.now c.args.holds.now) c.in-Done.is c.carry_out.ensures
