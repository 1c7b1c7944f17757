-- `Junction::busy_in`: the first of the list that has a train, and the train.
use Rattle.state.specs.Cells.{trains_in}
use Rattle.decide.proofs.Loops.{Looked}
use Rattle.decide.proofs.Junction.busy_in.Given as goal

abbrev pub invariant-loop-on : goal.invariant-loop-on
invariant-loop-on l = Looked (trains_in l.self.cells.now) l.clear 0 l.on-index
