-- `act::drop_all`: the cells passed have lost the route, the others are as they were.
use mathlib.Core.Path.{◌≡◌}
use lib.ListN.{length}
use Rattle.laws.specs.Tables.{tab}
use Rattle.events.specs.After.{dropped}
use Rattle.act.proofs.Walks.{up_to}
use Rattle.act.proofs.drop_all.Given as goal

abbrev pub invariant-loop-holders : goal.invariant-loop-holders
invariant-loop-holders l = l.holds ≡ tab (length l.initial.holds) (up_to l.holders-index (dropped l.route l.initial.holds) l.initial.holds)
