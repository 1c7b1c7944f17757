-- `Junction::busy_in`: the first of the list that has a train, and the train.
use mathlib.Core.Path.{refl}
use Rattle.std.proofs.Common.{rules}
use Rattle.decide.proofs.Loops.{part_met, part_on, part_over, part_below, whole_of, whole_from}
use Rattle.decide.proofs.Junction.busy_in.Goals as goal

pub loop-on-init : goal.loop-on-init
loop-on-init c = record { walked = record { left = refl } }

-- The walk's end stands first, so that one that ends too soon is refused for what it hands back. What is walked may be written as a part that is all of
-- the list.
pub returns : goal.returns
returns c = part_over c.loop-on.invariant (search (rules, whole_of, whole_from)) c.loop-on-test.false

pub returns-then-train-ne0 : goal.returns-then-train-ne0
returns-then-train-ne0 c =
    part_met c.loop-on.invariant (search (rules, whole_of, whole_from)) c.loop-on-test.true c.from-track.ensures c.train_at-train.ensures c.if-train-ne0.true

pub loop-on-preserved : goal.loop-on-preserved
loop-on-preserved c =
    part_on c.loop-on.invariant (search (rules, whole_of, whole_from)) c.loop-on-test.true c.from-track.ensures c.train_at-train.ensures c.if-train-ne0.false

pub train_at-train-requires : goal.train_at-train-requires
train_at-train-requires c = part_below (search (rules, whole_of, whole_from)) c.requires c.loop-on-test.true c.from-track.ensures
