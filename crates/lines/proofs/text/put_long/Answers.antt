-- `put_long`: the digits are those that the library writes.
use mathlib.Core.Path.{sym, ◌∙◌}
use Rattle.lines.proofs.Digits.{decimal_written}
use Rattle.lines.proofs.text.put_long.Goals as goal

pub returns : goal.returns
returns c = rw (decimal_written _ c.ranges.n.fits ∙ sym c.format.ensures.text ∙ sym c.as_bytes.ensures.value) c.put_bytes.ensures
