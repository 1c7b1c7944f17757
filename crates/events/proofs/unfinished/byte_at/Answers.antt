-- `events::unfinished::byte_at`: one of the bytes that are there, one of the next ones, or none.
use native.Mathlib.Omega.{arith}
use Rattle.events.proofs.Pieces.{few, byte_kept}
use Rattle.events.proofs.unfinished.byte_at.Goals as goal

pub bounds-unfinished-i : goal.bounds-unfinished-i
bounds-unfinished-i c = omega (arith, few c.args.unfinished.now c.args.bytes.now c.waiting.ensures, c.in-None.ensures)

pub returns-in-None : goal.returns-in-None
returns-in-None c = byte_kept c.args.unfinished.now c.args.bytes.now c.waiting.ensures c.args.i (omega (arith, c.in-None.ensures))
