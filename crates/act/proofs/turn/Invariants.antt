-- `act::turn`: what is left of the list still to be turned equals the whole; in the end nothing is left.
use mathlib.Core.Path.{◌≡◌}
use lib.ListN.{drop}
use Rattle.act.proofs.Walks.{writes}
use Rattle.act.proofs.turn.Given as goal

abbrev pub invariant-loop-point : goal.invariant-loop-point
invariant-loop-point l = writes (λ x. l.lie) l.list l.initial.lies ≡ writes (λ x. l.lie) (drop l.point-index l.list) l.lies
