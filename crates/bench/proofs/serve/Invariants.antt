-- `bench::serve`: each turn goes on from what the turns before it left.
use Rattle.reading.specs.Reading.{parse}
use Rattle.state.specs.Cells.{state_in}
use Rattle.bench.proofs.Served.{Serving}
use Rattle.bench.proofs.serve.Given as goal

abbrev pub invariant-loop : goal.invariant-loop
invariant-loop g l =
    Serving (parse l.plan) (state_in l.initial.cells l.initial.holds) l.initial.unfinished l.total l.counter (state_in l.cells l.holds) l.unfinished
