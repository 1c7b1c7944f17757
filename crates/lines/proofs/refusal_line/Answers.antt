-- `refusal_line`: after the number, the case that names a track and a train and the three that name an item name them, and the others end.
use Rattle.events.specs.Answers.{refusal_values, answer_values}
use Rattle.lines.specs.Lines.{bytes_of, line, parts_line, refusal_words, answer_words, table_number, answer_line}
use Rattle.lines.proofs.Shown.{bare_line}
use Rattle.lines.proofs.refusal_line.Goals as goal

pub returns-in-Occupied : goal.returns-in-Occupied
unfolding answer_line answer_words table_number refusal_words answer_values refusal_values line parts_line bytes_of
returns-in-Occupied c = rw (← c.number.ensures, c.in-Occupied.is, ← c.from-train.ensures) c.put_line.ensures

pub returns-in-Held : goal.returns-in-Held
unfolding answer_line answer_words table_number refusal_words answer_values refusal_values line parts_line bytes_of
returns-in-Held c = rw (← c.number.ensures, c.in-Held.is) c.put_line-in-Held.ensures

pub returns-in-HomeOccupied : goal.returns-in-HomeOccupied
unfolding answer_line answer_words table_number refusal_words answer_values refusal_values line parts_line bytes_of
returns-in-HomeOccupied c = rw (← c.number.ensures, c.in-HomeOccupied.is) c.put_line-in-HomeOccupied.ensures

pub returns-in-Red : goal.returns-in-Red
unfolding answer_line answer_words table_number refusal_words answer_values refusal_values line parts_line bytes_of
returns-in-Red c = rw (← c.number.ensures, c.in-Red.is) c.put_line-in-Red.ensures

pub returns-in_default : goal.returns-in_default
unfolding parts_line bytes_of
returns-in_default c =
    rw (bare_line c.args.refusal c.in_default.not-Occupied c.in_default.not-Held c.in_default.not-HomeOccupied c.in_default.not-Red, ← c.number.ensures)
    c.put_line-in_default.ensures
