-- `signalbox::said::say`: what was played is what is written.
use Rattle.signalbox.proofs.said.say.Goals as goal

pub returns : goal.returns
returns c = let played = c.play-answer.ensures in (played.1, rw played.0 at c.answer_line.ensures)
