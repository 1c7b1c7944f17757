-- `act::take`: what is left of the list still to be held equals the whole; a point that is named twice is held once.
use mathlib.Core.Path.{◌≡◌}
use lib.ListN.{drop}
use Rattle.state.specs.Holds.{adding}
use Rattle.act.proofs.Walks.{writes}
use Rattle.act.proofs.take.Given as goal

abbrev pub invariant-loop-point : goal.invariant-loop-point
invariant-loop-point l = writes (λ x. adding x l.route) l.list l.initial.holds ≡ writes (λ x. adding x l.route) (drop l.point-index l.list) l.holds
