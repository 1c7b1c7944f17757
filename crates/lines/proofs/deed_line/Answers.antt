-- `deed_line`: each case writes its own words and values.
use Rattle.events.specs.Answers.{deed_values, answer_values}
use Rattle.lines.specs.Lines.{bytes_of, line, parts_line, deed_words, answer_words, table_number, answer_line}
use Rattle.lines.proofs.deed_line.Goals as goal

pub returns-in-Granted : goal.returns-in-Granted
unfolding answer_line answer_words table_number deed_words answer_values deed_values line parts_line bytes_of
returns-in-Granted c = rw c.in-Granted.is c.put_line.ensures

pub returns-in-Cancelled : goal.returns-in-Cancelled
unfolding answer_line answer_words table_number deed_words answer_values deed_values line parts_line bytes_of
returns-in-Cancelled c = rw c.in-Cancelled.is c.put_line-in-Cancelled.ensures

pub returns-in-Entered : goal.returns-in-Entered
unfolding answer_line answer_words table_number deed_words answer_values deed_values line parts_line bytes_of
returns-in-Entered c = rw (c.in-Entered.is, ← c.from-train.ensures) c.put_line-in-Entered.ensures

pub returns-in-Moved : goal.returns-in-Moved
unfolding answer_line answer_words table_number deed_words answer_values deed_values line parts_line bytes_of
returns-in-Moved c = rw (c.in-Moved.is, ← c.from-train-in-Moved.ensures) c.put_line-in-Moved.ensures

pub returns-in-Left : goal.returns-in-Left
unfolding answer_line answer_words table_number deed_words answer_values deed_values line parts_line bytes_of
returns-in-Left c = rw (c.in-Left.is, ← c.from-train-in-Left.ensures) c.put_line-in-Left.ensures
