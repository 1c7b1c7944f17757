-- `reading::many`: what is left of the things from here answers what all of them do.
use Rattle.std.proofs.Common.{◌∙◌, rules}
use Rattle.reading.proofs.Scanned.{repeated_stop, repeated_on, repeated_end}
use Rattle.reading.proofs.many.Goals as goal

pub returns-in_err-at : goal.returns-in_err-at
returns-in_err-at g c one says =
    repeated_stop one _ _ _ _ c.loop-test.true (search rules) (says _ _ _ c.step.ensures) c.in_err-at.was ∙ c.loop.invariant one says

pub loop-preserved : goal.loop-preserved
loop-preserved g c one says =
    repeated_on one _ _ _ _ c.loop-test.true (says _ _ _ c.step.ensures) c.in_ok-at.was ∙ c.loop.invariant one says

pub returns : goal.returns
returns g c one says = repeated_end one _ _ _ _ c.loop-test.false ∙ c.loop.invariant one says
