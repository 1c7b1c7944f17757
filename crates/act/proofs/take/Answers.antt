-- `act::take`: what is left of the list still to be held equals the whole; a point that is named twice is held once.
use mathlib.Core.Path.{sym, ◌∙◌}
use native.Mathlib.Omega.{arith}
use Rattle.laws.specs.Lists.{all_at}
use Rattle.state.proofs.Holds.{adding_adding}
use Rattle.act.specs.Cells.{held}
use Rattle.act.proofs.Walks.{writes_step, writes_end, writes_tab}
use Rattle.act.proofs.take.Goals as goal

pub bounds-holds-from : goal.bounds-holds-from
bounds-holds-from c = omega (arith, all_at _ _ _ 0 c.requires c.loop-point-test.true, c.from.ensures, c.loop-point.auto.holds)

pub loop-point-preserved : goal.loop-point-preserved
loop-point-preserved c = c.loop-point.invariant ∙ writes_step _ _ _ _ _ _ c.loop-point-test.true c.from.ensures (rw c.from-in-loop-point.ensures at c.with.ensures)

pub returns : goal.returns
unfolding held
returns c = sym (writes_end _ _ _ _ c.loop-point-test.false) ∙ sym c.loop-point.invariant ∙ writes_tab _ (λ x. adding_adding x _) _ _
