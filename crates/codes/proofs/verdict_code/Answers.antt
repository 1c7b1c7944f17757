-- `codes::verdict_code`: by its rule and row.
use native.Mathlib.Omega.{arith}
use Rattle.rules.specs.Verdict.{rule_number, rule_row}
use Rattle.codes.specs.Codes.{packed, verdict_code}
use Rattle.codes.proofs.verdict_code.Goals as goal

pub returns-in-Ok : goal.returns-in-Ok
unfolding verdict_code packed rule_number rule_row
returns-in-Ok c = rw c.in-Ok.is

pub returns-in-Err : goal.returns-in-Err
unfolding verdict_code packed rule_number rule_row
returns-in-Err c = rw c.in-Err.is (omega (arith, c.pack.ensures))
