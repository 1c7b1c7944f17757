-- `codes::written_code`: by its number, and the length where there is one.
use native.Mathlib.Omega.{arith}
use Rattle.codes.specs.Codes.{written_code}
use Rattle.codes.proofs.written_code.Goals as goal

pub returns-in-Err : goal.returns-in-Err
unfolding written_code
returns-in-Err c = rw c.in-Err.is (omega (arith, c.number.ensures))

pub returns-in-Ok : goal.returns-in-Ok
unfolding written_code
returns-in-Ok c = rw c.in-Ok.is c.offset_code.ensures
