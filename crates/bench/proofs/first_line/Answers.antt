-- `bench::first_line`: there is room for it.
use Rattle.bench.proofs.Served.{first_all}
use Rattle.bench.proofs.first_line.Goals as goal

pub returns : goal.returns
returns c = first_all c.args.plan.now c.requires c.signalbox_open-opened.ensures
