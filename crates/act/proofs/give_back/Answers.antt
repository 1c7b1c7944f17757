-- `act::give_back`: the releases that are left, two numbers each, still to be acted on equal the whole.
use mathlib.Core.Path.{sym, ◌∙◌}
use native.Mathlib.Omega.{arith}
use borrow.Author.Rules.{rules}
use Rattle.laws.specs.Sets.{excluding_excluding}
use Rattle.act.specs.Cells.{freed}
use Rattle.act.proofs.Walks.{writes_tab, pair_below, released_end, released_hit, released_miss}
use Rattle.act.proofs.give_back.Goals as goal

pub bounds-holds-from : goal.bounds-holds-from
bounds-holds-from c =
    let step = c.in-Some.ensures.steps.1 in
    let left = c.loop-pair.invariant in
    omega (arith, (pair_below _ _ _ step.0 (step.1 ∙ left.pairs) _ left.below).0, c.from-then-from-to.ensures, c.loop-pair.auto.holds)

pub loop-pair-preserved-then-from-to : goal.loop-pair-preserved-then-from-to
loop-pair-preserved-then-from-to c =
    let step = c.in-Some.ensures.steps.1 in
    let left = c.loop-pair.invariant in
    record {
      can = search rules;
      finite = search rules;
      pairs = search rules;
      below = (pair_below _ _ _ step.0 (step.1 ∙ left.pairs) _ left.below).1;
      same = left.same ∙ released_hit _ _ _ step.0 (step.1 ∙ left.pairs) _ _ _ _ _ _
          (sym c.from.ensures ∙ c.if-from-to.true) c.from-then-from-to.ensures (rw c.from-then-from-to-2.ensures at c.without.ensures) (search rules);
    }

pub loop-pair-preserved : goal.loop-pair-preserved
loop-pair-preserved c =
    let step = c.in-Some.ensures.steps.1 in
    let left = c.loop-pair.invariant in
    record {
      can = search rules;
      finite = search rules;
      pairs = search rules;
      below = (pair_below _ _ _ step.0 (step.1 ∙ left.pairs) _ left.below).1;
      same = left.same ∙ released_miss _ _ _ step.0 (step.1 ∙ left.pairs) _ _ _ (λ e. c.if-from-to.false (c.from.ensures ∙ e));
    }

pub returns : goal.returns
unfolding freed
returns c =
    let left = c.loop-pair.invariant in
    sym (released_end _ _ _ _ (omega (arith, c.in-None.ensures.steps.1.0, left.pairs))) ∙ sym left.same ∙ writes_tab _ (λ x. excluding_excluding x _) _ _
