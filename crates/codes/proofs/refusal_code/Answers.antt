-- `codes::refusal_code`: by its number and what it names.
use mathlib.Core.Logic.{inl, inr}
use Rattle.events.specs.Answers.{answer_number, answer_values, refusal_values}
use Rattle.codes.specs.Codes.{answer_code, packed}
use Rattle.codes.proofs.Coded.{bare_code}
use Rattle.codes.proofs.refusal_code.Goals as goal

pub returns-in-Occupied : goal.returns-in-Occupied
unfolding answer_code packed answer_number answer_values refusal_values
returns-in-Occupied c = rw (← c.number-number.ensures, c.in-Occupied.is, ← c.from.ensures) c.pack.ensures

pub returns-in-Held : goal.returns-in-Held
unfolding answer_code packed answer_number answer_values refusal_values
returns-in-Held c = elim c.in-Held.is [
  | inl e ↦ rw (← c.number-number.ensures, e) c.pack-in-Held.ensures
  | inr (inl e) ↦ rw (← c.number-number.ensures, e) c.pack-in-Held.ensures
  | inr (inr e) ↦ rw (← c.number-number.ensures, e) c.pack-in-Held.ensures
]

pub returns-in_default : goal.returns-in_default
returns-in_default c =
    rw (bare_code c.args.refusal c.in_default.not-Occupied c.in_default.not-Held c.in_default.not-HomeOccupied c.in_default.not-Red, ← c.number-number.ensures)
    c.pack-in_default.ensures
