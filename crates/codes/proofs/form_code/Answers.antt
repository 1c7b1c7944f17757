-- `codes::form_code`: by its number, which is a byte, and its offset.
use native.Mathlib.Omega.{arith}
use Rattle.codes.specs.Codes.{form_code}
use Rattle.codes.proofs.Coded.{form_byte}
use Rattle.codes.proofs.form_code.Goals as goal

pub returns : goal.returns
unfolding form_code
returns c = omega (arith, c.offset_code.ensures, c.byte.ensures, c.number.ensures, c.offset.ensures, form_byte c.args.form)
