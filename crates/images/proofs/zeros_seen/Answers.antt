-- `images::zeros_seen`: so many zeros are so many numbers below 1.
use Rattle.std.proofs.Common.{rules}
use Rattle.reading.specs.Reading.{number, below, free}
use Rattle.reading.proofs.Scanned.{many_read, number_steady, free_step}
use Rattle.images.specs.Images.{zeros}
use Rattle.images.proofs.zeros_seen.Goals as goal

pub returns : goal.returns
unfolding zeros
returns c =
    let zero = number (below 1) in
    rw c.saturating_sub.ensures at (many_read zero free c.args.bytes.now (number_steady _) _ _ c.many.ensures (λ at least answer post. search (rules, free_step zero)))
