-- `signalbox::signalbox_open`: the line of what reading or checking finds.
use Rattle.signalbox.proofs.Faced.{unread, was_read}
use Rattle.signalbox.proofs.Opening.{no_room_lem, opened_form, opened_plan}
use Rattle.signalbox.proofs.signalbox_open.Goals as goal
use Rattle.signalbox.proofs.signalbox_open.Goals.{in-Ok, in-Err}

pub returns-then-out-lt1 : goal.returns-then-out-lt1
returns-then-out-lt1 c = rw c.not_done.ensures (no_room_lem c.args.file.now c.args.out.now c.if-out-lt1.true)

pub returns : goal.returns
returns c =
    let file = c.args.file.now in let out = c.args.out.now in
    rw c.done.ensures (elim c.match-load.branch [
      | in-Ok w ↦ rw (w.out-is, w.done-is) (
          opened_plan file out c.if-out-lt1.false (was_read file _ c.load.ensures w.in-Ok.is) w.check.ensures w.verdict_line.ensures)
      | in-Err w ↦ rw (w.out-is, w.done-is) (opened_form file out c.if-out-lt1.false (unread file _ c.load.ensures w.in-Err.is) w.form_line.ensures)
    ])
