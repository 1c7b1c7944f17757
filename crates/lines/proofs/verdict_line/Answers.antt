-- `verdict_line`: a broken rule is named with its row; else the plan is accepted.
use Rattle.lines.specs.Lines.{bytes_of, line, parts_line, verdict_line}
use Rattle.laws.specs.Written.{wrote_then}
use Rattle.lines.proofs.verdict_line.Goals as goal

pub returns-in-Ok : goal.returns-in-Ok
unfolding verdict_line bytes_of
returns-in-Ok c = rw c.in-Ok.is (wrote_then c.put_bytes-next.ensures c.put_end.ensures)

pub returns-in-Err : goal.returns-in-Err
unfolding verdict_line bytes_of line parts_line
returns-in-Err c = rw c.in-Err.is c.put_line.ensures
