-- `act::redden`: the signals passed are red where they stand on the track, the others are as they were.
use mathlib.Core.Path.{◌≡◌}
use lib.ListN.{length}
use Rattle.laws.specs.Tables.{tab}
use Rattle.plan.specs.Image.{plan_of}
use Rattle.events.specs.After.{reddened}
use Rattle.act.proofs.Walks.{up_to}
use Rattle.act.proofs.redden.Given as goal

abbrev pub invariant-loop-signal : goal.invariant-loop-signal
invariant-loop-signal l = l.signals ≡ tab (length l.initial.signals) (up_to l.signal (reddened (plan_of l.image) l.from l.initial.signals) l.initial.signals)
