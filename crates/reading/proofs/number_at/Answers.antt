-- `reading::number_at`: where the step ends.
use Rattle.std.proofs.Common.{rules}
use Rattle.reading.proofs.Scanned.{step_refused, step_passed, number_steady}
use Rattle.reading.proofs.number_at.Goals as goal

pub returns-in_err-next : goal.returns-in_err-next
returns-in_err-next c = step_refused _ _ _ _ _ c.number_step.ensures (search rules) c.in_err-next.was

pub returns : goal.returns
returns c = step_passed _ _ _ _ _ c.number_step.ensures (number_steady _ _) c.in_ok-next.was
