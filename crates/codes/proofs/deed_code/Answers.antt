-- `codes::deed_code`: by its number and values.
use mathlib.Core.Logic.{inl, inr}
use Rattle.events.specs.Answers.{answer_number, answer_values, deed_values}
use Rattle.codes.specs.Codes.{answer_code, packed}
use Rattle.codes.proofs.deed_code.Goals as goal

pub returns-in-Granted : goal.returns-in-Granted
unfolding answer_code packed answer_number answer_values deed_values
returns-in-Granted c = elim c.in-Granted.is [
  | inl e ↦ rw (← c.number-number.ensures, e) c.pack-in-Granted.ensures
  | inr e ↦ rw (← c.number-number.ensures, e) c.pack-in-Granted.ensures
]

pub returns-in-Entered : goal.returns-in-Entered
unfolding answer_code packed answer_number answer_values deed_values
returns-in-Entered c = elim c.in-Entered.is [
  | inl e ↦ rw (← c.number-number.ensures, e, ← c.from-in-Entered.ensures) c.pack-in-Entered.ensures
  | inr e ↦ rw (← c.number-number.ensures, e, ← c.from-in-Entered.ensures) c.pack-in-Entered.ensures
]

pub returns-in-Moved : goal.returns-in-Moved
unfolding answer_code packed answer_number answer_values deed_values
returns-in-Moved c = rw (← c.number-number.ensures, c.in-Moved.is, ← c.from.ensures) c.pack.ensures
