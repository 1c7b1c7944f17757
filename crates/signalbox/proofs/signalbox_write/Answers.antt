-- `signalbox::signalbox_write`: what writing answers, as its code, and what it leaves.
use mathlib.Core.Path.{ap, ◌∙◌}
use lib.ListN.{length}
use Rattle.codes.specs.Codes.{written_code}
use Rattle.writing.proofs.Answers.{after_long}
use Rattle.signalbox.proofs.signalbox_write.Goals as goal

pub shape_of-out : goal.shape_of-out
shape_of-out c = ap length c.write.ensures.1 ∙ after_long c.args.image.now c.args.out.now

pub returns : goal.returns
returns c =
    let told = c.write.ensures in
    record { code = c.written_code.ensures ∙ ap written_code told.0; holds = told.1 }
