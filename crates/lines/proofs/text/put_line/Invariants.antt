-- `put_line`: what is left of the line, written from the place reached, gives the whole line.
use Rattle.lines.proofs.Runs.{Lining}
use Rattle.lines.proofs.text.put_line.Given as goal

abbrev pub invariant-loop-word : goal.invariant-loop-word
invariant-loop-word l = Lining l.parts l.initial.out l.at l.out l.word-index l.next
