-- `act::give_back`: the releases that are left, two numbers each, still to be acted on equal the whole.
use mathlib.Core.Path.{◌≡◌}
use Prim.Native.Nat.{◌<◌}
use lib.ListN.{length}
use Rattle.std.specs.Slice.Iter.{chunks_exact_rest, chunks_exact_size}
use Rattle.laws.specs.Lists.{All}
use Rattle.laws.specs.Sets.{excluding}
use Rattle.act.specs.Cells.{released}
use Rattle.act.proofs.Walks.{writes}
use Rattle.act.proofs.give_back.Given as goal

abbrev pub invariant-loop-pair : goal.invariant-loop-pair
invariant-loop-pair l = record {
  can : (goal.iterator-loop-pair).can_next l.pair-iterator;
  finite : (goal.iterator-loop-pair).is_finite l.pair-iterator;
  pairs : chunks_exact_size l.pair-iterator ≡ 2;
  below : All (λ q. q < length l.initial.holds) (chunks_exact_rest l.pair-iterator);
  same : writes (λ x. excluding x l.route) (released l.to l.releases) l.initial.holds ≡ writes (λ x. excluding x l.route) (released l.to (chunks_exact_rest l.pair-iterator)) l.holds;
}
