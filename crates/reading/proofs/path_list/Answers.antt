-- `reading::path_list`: a step answers as the reader of one thing does.
use Rattle.std.proofs.Common.{rules}
use Rattle.reading.specs.Reading.{path_list, number, below, free}
use Rattle.reading.proofs.Scanned.{counted_read, number_steady, free_step}
use Rattle.reading.proofs.path_list.Goals as goal

pub returns : goal.returns
unfolding path_list
returns c =
    counted_read (number (below c.args.tracks)) free _ (number_steady _) _ _ _ c.counted.ensures (λ at least answer post. search (rules, free_step (number (below c.args.tracks))))
