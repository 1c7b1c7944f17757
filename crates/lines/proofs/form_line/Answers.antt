-- `form_line`: the form's number and offset, each after its word.
use Rattle.lines.specs.Lines.{bytes_of, line, parts_line, form_line}
use Rattle.lines.proofs.form_line.Goals as goal

pub returns : goal.returns
unfolding form_line line parts_line bytes_of
returns c = rw (← c.number.ensures, ← c.offset.ensures) c.put_line.ensures
