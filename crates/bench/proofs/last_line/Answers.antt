-- `bench::last_line`: nothing is in the way of it.
use Rattle.bench.proofs.Served.{ended_all}
use Rattle.bench.proofs.last_line.Goals as goal

pub returns : goal.returns
returns c = ended_all c.args.plan.now c.requires.serves c.requires.line_most_in_bounds c.signalbox_finish-finished.ensures
