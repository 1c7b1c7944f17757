-- `act::Due::arrive`: the routes passed have given back what their releases name.
use mathlib.Core.Path.{◌≡◌}
use Rattle.laws.specs.Tables.{tab}
use Rattle.plan.specs.Limits.{most_tracks}
use Rattle.plan.specs.Image.{plan_of}
use Rattle.act.proofs.Acts.{gave_back}
use Rattle.act.proofs.Due.arrive.Given as goal

abbrev pub invariant-loop-route : goal.invariant-loop-route
invariant-loop-route l = l.holds ≡ tab most_tracks (gave_back (plan_of l.self.image.now) l.to l.initial.holds l.route)
