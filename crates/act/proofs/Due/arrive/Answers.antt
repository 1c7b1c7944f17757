-- `act::Due::arrive`: the routes passed have given back what their releases name.
use mathlib.Core.Path.{ap, ◌∙◌}
use native.Mathlib.Omega.{arith}
use lib.ListN.{length}
use Rattle.laws.specs.Tables.{length_tab}
use Rattle.act.proofs.Named.{releases_below}
use Rattle.act.proofs.Acts.{back_none, back_more, back_all}
use Rattle.act.proofs.Due.arrive.Goals as goal

pub loop-route-init : goal.loop-route-init
loop-route-init c = back_none _ _ _ c.told-holds

pub give_back-requires : goal.give_back-requires
give_back-requires c =
    releases_below _ c.args.self.ready.readable _ (omega (arith, c.loop-route-test.true, c.routes-route-end.ensures))
    c.loop-route.holds (ap length c.loop-route.invariant ∙ length_tab _ _) c.releases_of.ensures

pub loop-route-preserved : goal.loop-route-preserved
loop-route-preserved c = c.give_back.ensures ∙ back_more _ _ _ _ _ _ c.loop-route.invariant c.releases_of.ensures

pub returns : goal.returns
returns c = c.loop-route.invariant ∙ back_all _ _ _ _ (omega (arith, c.routes-route-end.ensures, c.loop-route-test.false, c.loop-route.auto.route-end))
