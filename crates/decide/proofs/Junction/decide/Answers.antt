-- `Junction::decide`: what the chain of the event's kind hands back; those that don't look at the holds are asked about the holds that are lent.
use Rattle.std.proofs.Common.{◌∙◌}
use Rattle.events.specs.Decide.{decided}
use Rattle.decide.proofs.Told.{answer_done, answer_stopped}
use Rattle.decide.proofs.Junction.decide.Goals as goal
use Rattle.decide.proofs.Junction.decide.Goals.{in-Request, in-Cancel, in-Enter, in-Move, in-Unknown}

pub returns-in-Ok : goal.returns-in-Ok
unfolding decided
returns-in-Ok c = elim c.match-event.branch [
  | in-Request w ↦ rw w.in-Request.is (answer_done _ (w.deed-is ∙ w.request-deed.ensures) c.in-Ok.is)
  | in-Cancel w ↦ rw w.in-Cancel.is (answer_done _ (w.deed-is ∙ w.cancel-deed.ensures c.args.self.holds.now) c.in-Ok.is)
  | in-Enter w ↦ rw w.in-Enter.is (answer_done _ (w.deed-is ∙ w.enter-deed.ensures c.args.self.holds.now) c.in-Ok.is)
  | in-Move w ↦ rw w.in-Move.is (answer_done _ (w.deed-is ∙ w.go-deed.ensures c.args.self.holds.now) c.in-Ok.is)
  | in-Unknown w ↦ rw w.in-Unknown.is (answer_done _ w.deed-is c.in-Ok.is)
]

pub returns-in-Err : goal.returns-in-Err
unfolding decided
returns-in-Err c = elim c.match-event.branch [
  | in-Request w ↦ rw w.in-Request.is (answer_stopped _ (w.deed-is ∙ w.request-deed.ensures) c.in-Err.is)
  | in-Cancel w ↦ rw w.in-Cancel.is (answer_stopped _ (w.deed-is ∙ w.cancel-deed.ensures c.args.self.holds.now) c.in-Err.is)
  | in-Enter w ↦ rw w.in-Enter.is (answer_stopped _ (w.deed-is ∙ w.enter-deed.ensures c.args.self.holds.now) c.in-Err.is)
  | in-Move w ↦ rw w.in-Move.is (answer_stopped _ (w.deed-is ∙ w.go-deed.ensures c.args.self.holds.now) c.in-Err.is)
  | in-Unknown w ↦ rw w.in-Unknown.is (answer_stopped _ w.deed-is c.in-Err.is)
]
