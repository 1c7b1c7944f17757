-- `put_end`: one byte, the end's.
use Rattle.laws.specs.Written.{wrote_byte}
use Rattle.lines.proofs.text.put_end.Goals as goal

pub bounds-out-at : goal.bounds-out-at
bounds-out-at c = c.requires

pub returns : goal.returns
returns c = wrote_byte _ _ _ c.requires
