-- `bench::main`: a plan that reads and the fresh state are where serving begins.
use Rattle.bench.proofs.Served.{begins}
use Rattle.bench.proofs.main.Goals as goal

pub serve-requires : goal.serve-requires
serve-requires c = begins c.load-file.result.now c.signalbox_fresh.ensures c.signalbox_read.ensures c.if-signalbox_read-ne0.false
