-- `reading::point_list`: a step answers as the reader of one thing does.
use Rattle.std.proofs.Common.{rules}
use Rattle.plan.specs.Kinds.{is_point}
use Rattle.plan.specs.Image.{plan_of}
use Rattle.reading.specs.Reading.{point_list, number, above}
use Rattle.reading.proofs.Scanned.{counted_read, number_steady}
use Rattle.reading.proofs.point_list.Goals as goal

pub returns : goal.returns
unfolding point_list
returns c =
    counted_read (number (is_point (plan_of c.args.image.now).tracks)) above _ (number_steady _) _ _ _ c.counted.ensures (search rules)
