-- `signalbox::signalbox_step`: something is in the way, or the event is played.
use mathlib.Core.Path.{sym, ◌∙◌}
use Rattle.reading.specs.Reading.{parse}
use Rattle.state.specs.Cells.{state_in}
use Rattle.events.specs.Events.{first_event}
use Rattle.signalbox.proofs.Faced.{Ready, readable_image, is_ready, stopped, some_reason, step_stopped, stepped}
use Rattle.signalbox.proofs.signalbox_step.Goals as goal

pub returns-in-Err : goal.returns-in-Err
returns-in-Err c =
    step_stopped c.args.file.now (state_in c.args.cells.now c.args.holds.now) (first_event c.args.event.now)
    (c.code.ensures ∙ stopped (parse c.args.file.now) _ c.ready.ensures.0 c.in-Err.is) (λ z. some_reason c.in-Err.reason (sym c.code.ensures ∙ z))

pub play-requires : goal.play-requires
play-requires c =
    let is_free : Ready c.args.file.now c.ready.new.image (state_in c.args.cells.now c.args.holds.now) = is_ready _ c.ready.ensures c.in_default.is in
    readable_image is_free.read

pub returns : goal.returns
returns c =
    let is_free : Ready c.args.file.now c.ready.new.image (state_in c.args.cells.now c.args.holds.now) = is_ready _ c.ready.ensures c.in_default.is in
    let e = c.event_at.ensures in
    stepped c.args.file.now (state_in c.args.cells.now c.args.holds.now) (first_event c.args.event.now) is_free (rw e at c.play.ensures.0)
    (rw e at c.play.ensures.1) c.answer_code.ensures
