-- `writing::sections::write_routes`: the count's byte, and at each turn the routes before it are written and the others are left.
use Rattle.std.proofs.Common.{refl, arith}
use Rattle.plan.specs.File.{route_file}
use Rattle.plan.specs.Records.{no_route, route_of}
use Rattle.writing.proofs.Writes.{left_fits, left_next, left_turn, left_stop, byte_start, byte_end, counted_is}
use Rattle.writing.proofs.sections.write_routes.Goals as goal

pub loop-route-init : goal.loop-route-init
loop-route-init c = byte_start c.args.out.now c.routes-routes.ensures (counted_is route_file _ refl refl) c.requires

pub write_route-at-requires : goal.write_route-at-requires
unfolding route_of
write_route-at-requires c = left_fits (left_turn c.loop-route.route c.loop-route.invariant c.routes-routes.ensures no_route (omega arith))

pub loop-route-preserved : goal.loop-route-preserved
unfolding route_of
loop-route-preserved c = left_next (left_turn c.loop-route.route c.loop-route.invariant c.routes-routes.ensures no_route (omega arith)) c.write_route-at.ensures

pub returns : goal.returns
returns c =
    byte_end c.args.out.now c.routes-routes.ensures (counted_is route_file _ refl refl)
    (left_stop c.loop-route.route c.loop-route.invariant c.routes-routes.ensures (omega arith))
