-- `codes::pack`: four bytes, the first one lowest.
use native.Mathlib.Omega.{arith}
use Rattle.codes.specs.Codes.{packed}
use Rattle.codes.proofs.pack.Goals as goal

pub returns : goal.returns
unfolding packed
returns c = omega (arith, c.byte.ensures, c.byte-2.ensures, c.byte-3.ensures, c.byte-4.ensures, c.from_le_bytes.ensures, c.from.ensures)
