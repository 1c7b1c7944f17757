-- `put_line`: a word and its number, and then the rest of the line.
use Rattle.lines.proofs.Runs.{part_room, lining_turn, end_room, lining_end}
use Rattle.lines.proofs.text.put_line.Goals as goal

pub put_number-next-requires : goal.put_number-next-requires
put_number-next-requires c = part_room c.loop-word.invariant _ c.loop-word-test.true

pub loop-word-preserved : goal.loop-word-preserved
loop-word-preserved c = lining_turn c.loop-word.invariant _ c.loop-word-test.true c.put_number-next.ensures

pub put_end-requires : goal.put_end-requires
put_end-requires c = end_room c.loop-word.invariant c.loop-word-test.false

pub returns : goal.returns
returns c = lining_end c.loop-word.invariant c.loop-word-test.false c.put_end.ensures
