-- `reading::rising_list`: a step answers as the reader of one thing does.
use Rattle.std.proofs.Common.{rules}
use Rattle.reading.specs.Reading.{rising_list, number, below, above}
use Rattle.reading.proofs.Scanned.{counted_read, number_steady}
use Rattle.reading.proofs.rising_list.Goals as goal

pub returns : goal.returns
unfolding rising_list
returns c =
    counted_read (number (below c.args.tracks)) above _ (number_steady _) _ _ _ c.counted.ensures (search rules)
