-- `reading::release_step`: the track, then the step of the point.
use Rattle.std.proofs.Common.{rules}
use Rattle.reading.specs.Reading.{number, below}
use Rattle.reading.proofs.Scanned.{release_stop, release_on}
use Rattle.reading.proofs.Chains.{told_as}
use Rattle.reading.proofs.release_step.Goals as goal

pub returns-in_err-point : goal.returns-in_err-point
returns-in_err-point c = release_stop _ _ _ _ (told_as (λ n. number (below n) 0) _ _ c.tracks.ensures c.number_at.ensures) (search rules) c.in_err-point.was

pub returns : goal.returns
returns c = release_on _ _ _ _ (told_as (λ n. number (below n) 0) _ _ c.tracks.ensures c.number_at.ensures) c.in_ok-point.was c.point_step.ensures
