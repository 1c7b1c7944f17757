-- `reading::release_list`: a step answers as the reader of one thing does.
use Rattle.std.proofs.Common.{rules}
use Rattle.plan.specs.Image.{plan_of}
use Rattle.reading.specs.Reading.{release_list, release, after_release}
use Rattle.reading.proofs.Scanned.{counted_read, release_steady}
use Rattle.reading.proofs.release_list.Goals as goal

pub returns : goal.returns
unfolding release_list
returns c =
    counted_read (release (plan_of c.args.image.now).tracks) after_release _ (release_steady _) _ _ _ c.counted.ensures (search rules)
