-- `images::zeros_in`: the offsets are in order and within, and the part between them is empty.
use Rattle.std.specs.Prelude.{◌≡◌, false, MatchOption}
use Rattle.std.proofs.Common.{rules}
use Rattle.laws.specs.Lists.{empty_from}
use Rattle.images.proofs.Zeros.{zeros_between}
use Rattle.images.proofs.zeros_in.Goals as goal

pub returns : goal.returns
unfolding empty_from
returns c =
    let asked : MatchOption c.get.result (c.is_some_and.result ≡ false) (λ part. c.is_some_and.result ≡ empty_from 0 part.now) = search rules in
    zeros_between _ _ _ _ c.get.ensures.lookup.0 asked
