-- `signalbox::signalbox_run`: something is in the way, or the codes so far are those of the answers so far.
use mathlib.Core.Path.{refl, sym, ◌∙◌}
use native.Mathlib.Omega.{arith}
use Rattle.reading.specs.Reading.{parse}
use Rattle.state.specs.Cells.{state_in}
use Rattle.events.proofs.Pieces.{events_length, events_at}
use Rattle.signalbox.specs.Face.{code_of}
use Rattle.signalbox.proofs.Faced.{Ready, is_ready, stopped, some_reason}
use Rattle.signalbox.proofs.Playing.{run_stopped, run_crowded, run_free, short, wrote_code, played_none, playing_start, playing_readable, playing_room, playing_there, playing_turn, playing_counted}
use Rattle.signalbox.proofs.signalbox_run.Goals as goal

pub returns-in-Err : goal.returns-in-Err
returns-in-Err c =
    rw c.not_done.ensures (
    played_none code_of c.args.file.now _ _ _ (run_stopped _ _ _ _ (stopped (parse c.args.file.now) _ c.ready.ensures.0 c.in-Err.is) (some_reason c.in-Err.reason)) (some_reason c.in-Err.reason))

pub returns-then-answers-count : goal.returns-then-answers-count
returns-then-answers-count c =
    let is_free : Ready c.args.file.now c.ready.new.image (state_in c.args.cells.now c.args.holds.now) = is_ready _ c.ready.ensures c.in_default.is in
    rw c.not_done-then-answers-count.ensures (
    played_none code_of c.args.file.now _ _ _ (run_crowded _ _ _ _ is_free.free (rw c.event_count-count.ensures at c.if-answers-count.true)) (λ z. omega arith))

pub loop-i-init : goal.loop-i-init
loop-i-init c =
    let is_free : Ready c.args.file.now c.ready.new.image (state_in c.args.cells.now c.args.holds.now) = is_ready _ c.ready.ensures c.in_default.is in
    let n = c.event_count-count.ensures in
    playing_start is_free (run_free _ _ _ _ is_free.free (rw n at c.if-answers-count.false)) n (omega (arith, c.if-answers-count.false))

pub overflow_mul-i : goal.overflow_mul-i
overflow_mul-i c =
    omega (arith, playing_there c.loop-i.invariant c.loop-i-test.true, events_length c.args.events.now)

pub play-answer-requires : goal.play-answer-requires
play-answer-requires c = playing_readable c.loop-i.invariant

pub offset_bounds-answers-i : goal.offset_bounds-answers-i
offset_bounds-answers-i c =
    omega (arith, playing_room c.loop-i.invariant c.loop-i-test.true)

pub bounds-answers-i : goal.bounds-answers-i
bounds-answers-i c = omega (arith, playing_room c.loop-i.invariant c.loop-i-test.true)

pub loop-i-preserved : goal.loop-i-preserved
loop-i-preserved c =
    let l = c.loop-i.invariant in
    let h = c.loop-i-test.true in
    playing_turn l h (c.event_at.ensures ∙ sym (events_at _ _ (playing_there l h))) short c.play-answer.ensures.0 c.play-answer.ensures.1
    (wrote_code _ c.answer_code.ensures (playing_room l h))

pub returns : goal.returns
returns c = rw c.done.ensures (playing_counted c.loop-i.invariant (omega arith) refl)
