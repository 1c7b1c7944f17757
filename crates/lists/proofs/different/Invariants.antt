-- `lists::different`: what is left of the list has no number twice exactly if the whole list has none.
use Rattle.std.proofs.Common.{◌≡◌, drop}
use Rattle.laws.specs.Lists.{different}
use Rattle.lists.proofs.different.Given as goal

abbrev pub invariant-loop-i : goal.invariant-loop-i
invariant-loop-i l = different (drop l.i l.list) ≡ different l.list
