-- `writing::sections::write_routes`: the count's byte, and at each turn the routes before it are written and the others are left.
use lib.ListN.{drop}
use Rattle.plan.specs.File.{route_file}
use Rattle.plan.specs.Image.{plan_of}
use Rattle.writing.proofs.Writes.{Left}
use Rattle.writing.proofs.sections.write_routes.Given as goal

abbrev pub invariant-loop-route : goal.invariant-loop-route
invariant-loop-route l = let all = (plan_of l.image).routes in Left route_file all l.initial.out 1 (drop l.route all) l.out l.at
