-- `reading::many`: what is left of the things from here answers what all of them do.
use Rattle.std.proofs.Common.{◌≡◌, ◌-◌}
use Rattle.reading.specs.Calls.{Step, IsStep, repeated}
use Rattle.reading.proofs.many.Given as goal

abbrev pub invariant-loop : goal.invariant-loop
invariant-loop g l = (step : Step) → IsStep (goal.F-post g l.step) step → repeated step (l.count - l.counter) l.at l.least ≡ repeated step l.count l.from 0
