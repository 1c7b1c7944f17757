-- `act::drop_all`: the cells passed have lost the route, the others are as they were.
use native.Mathlib.Omega.{arith}
use Rattle.act.proofs.Walks.{done_none, done_all}
use Rattle.act.proofs.Acts.{drop_step}
use Rattle.act.proofs.drop_all.Goals as goal

pub loop-holders-init : goal.loop-holders-init
loop-holders-init c = done_none _ _

pub loop-holders-preserved : goal.loop-holders-preserved
loop-holders-preserved c =
    drop_step _ c.args.holds.now _ _ _ c.loop-holders.invariant (omega (arith, c.loop-holders-test.true, c.loop-holders.auto.holds)) (rw c.from.ensures at c.without.ensures)

pub returns : goal.returns
returns c = done_all _ c.args.holds.now _ _ c.loop-holders.invariant (λ k h l. absurd (omega (arith, c.loop-holders-test.false)))
