-- `events::unfinished::whole_count`: the whole events of the bytes that are there and the next ones.
use native.Mathlib.Omega.{arith}
use Rattle.events.proofs.Pieces.{few, whole_is}
use Rattle.events.proofs.unfinished.whole_count.Goals as goal

pub overflow_add-result : goal.overflow_add-result
overflow_add-result c = omega (arith, few c.args.unfinished.now c.args.bytes.now c.waiting.ensures, c.well_formed.1.0.1)

pub returns : goal.returns
returns c = whole_is c.args.unfinished.now c.args.bytes.now c.waiting.ensures
