-- `lists::different`: what is left of the list has no number twice exactly if the whole list has none.
use Rattle.std.proofs.Common.{sym, ◌∙◌}
use Rattle.lists.proofs.Walks.{different_passed, different_failed, different_done}
use Rattle.lists.proofs.different.Goals as goal

pub returns-then-has : goal.returns-then-has
returns-then-has c =
    sym (different_failed c.args.list.now _ c.loop-i-test.true (rw (c.from.ensures) at c.has.ensures) c.if-has.true) ∙ c.loop-i.invariant

pub loop-i-preserved : goal.loop-i-preserved
loop-i-preserved c =
    sym (different_passed c.args.list.now _ c.loop-i-test.true (rw (c.from.ensures) at c.has.ensures) c.if-has.false) ∙ c.loop-i.invariant

pub returns : goal.returns
returns c = sym (different_done c.args.list.now _ c.loop-i-test.false) ∙ c.loop-i.invariant
