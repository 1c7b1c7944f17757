-- `act::turn`: what is left of the list still to be turned equals the whole; in the end nothing is left.
use mathlib.Core.Path.{refl, sym, ◌∙◌}
use native.Mathlib.Omega.{arith}
use Rattle.laws.specs.Lists.{all_at}
use Rattle.act.specs.Cells.{turned}
use Rattle.act.proofs.Walks.{writes_step, writes_end, writes_tab}
use Rattle.act.proofs.turn.Goals as goal

pub bounds-lies-from : goal.bounds-lies-from
bounds-lies-from c = omega (arith, all_at _ _ _ 0 c.requires c.loop-point-test.true, c.from.ensures, c.loop-point.auto.lies)

pub loop-point-preserved : goal.loop-point-preserved
loop-point-preserved c = c.loop-point.invariant ∙ writes_step _ _ _ _ _ _ c.loop-point-test.true c.from.ensures refl

pub returns : goal.returns
unfolding turned
returns c = sym (writes_end _ _ _ _ c.loop-point-test.false) ∙ sym c.loop-point.invariant ∙ writes_tab _ (λ x. refl) _ _
