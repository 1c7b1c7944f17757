-- `harm_line`: after the number, each case names its item.
use mathlib.Core.Logic.{inl, inr}
use Rattle.events.specs.Answers.{harm_values, answer_values}
use Rattle.lines.specs.Lines.{bytes_of, line, parts_line, harm_words, answer_words, table_number, answer_line}
use Rattle.lines.proofs.harm_line.Goals as goal

pub returns-in-Collision : goal.returns-in-Collision
unfolding answer_line answer_words table_number harm_words answer_values harm_values line parts_line bytes_of
returns-in-Collision c = elim c.in-Collision.is [
  | inl e ↦ rw (← c.number.ensures, e) c.put_line-in-Collision.ensures
  | inr e ↦ rw (← c.number.ensures, e) c.put_line-in-Collision.ensures
]

pub returns-in-Derailment : goal.returns-in-Derailment
unfolding answer_line answer_words table_number harm_words answer_values harm_values line parts_line bytes_of
returns-in-Derailment c = rw (← c.number.ensures, c.in-Derailment.is) c.put_line.ensures
