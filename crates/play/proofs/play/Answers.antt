-- `play::play`: what is decided can be acted on, and is what is handed back. `Acts` is opened, so that an answer that names nothing asks nothing.
use Rattle.state.specs.Cells.{state_in}
use Rattle.events.specs.After.{Acts}
use Rattle.play.proofs.Ready.{ready, played}
use borrow.Author.Rules.{rules}
use Rattle.play.proofs.play.Goals as goal

pub act-requires : goal.act-requires
unfolding Acts
act-requires c =
    let r = ready _ (state_in c.args.cells.now c.args.holds.now) c.args.event c.decide-answer.ensures c.requires in
    (c.requires, search (rules, r))

pub returns : goal.returns
returns c =
    played _ (state_in c.args.cells.now c.args.holds.now) c.args.event c.decide-answer.ensures c.act.ensures
