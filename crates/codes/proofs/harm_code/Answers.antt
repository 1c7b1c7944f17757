-- `codes::harm_code`: by its number and value.
use mathlib.Core.Logic.{inl, inr}
use Rattle.events.specs.Answers.{answer_number, answer_values, harm_values}
use Rattle.codes.specs.Codes.{answer_code, packed}
use Rattle.codes.proofs.harm_code.Goals as goal

pub returns-in-Collision : goal.returns-in-Collision
unfolding answer_code packed answer_number answer_values harm_values
returns-in-Collision c = elim c.in-Collision.is [
  | inl e ↦ rw (← c.number-number.ensures, e) c.pack-in-Collision.ensures
  | inr e ↦ rw (← c.number-number.ensures, e) c.pack-in-Collision.ensures
]

pub returns-in-Derailment : goal.returns-in-Derailment
unfolding answer_code packed answer_number answer_values harm_values
returns-in-Derailment c = rw (← c.number-number.ensures, c.in-Derailment.is) c.pack.ensures
