-- `signalbox::signalbox_finish`: something is in the way, nothing is unfinished, or an incomplete event is played.
use mathlib.Core.Path.{refl}
use native.Mathlib.Omega.{arith}
use Rattle.reading.specs.Reading.{parse}
use Rattle.state.specs.Cells.{state_in}
use Rattle.events.specs.Events.{unfinished_cells}
use Rattle.lines.proofs.Most.{answer_most}
use Rattle.demands.specs.Session.{ended, end_lines}
use Rattle.signalbox.proofs.Faced.{Ready, readable_image, is_ready, stopped, some_reason, some_ill}
use Rattle.signalbox.proofs.Playing.{line_stopped, line_long, line_crowded, line_free, playing_start, playing_turn}
use Rattle.signalbox.proofs.Feeding.{answered_none, answered_all, lines_room, none_unfinished, one_unfinished, unfinished_unknown}
use Rattle.signalbox.proofs.signalbox_finish.Goals as goal

pub returns-in-Err : goal.returns-in-Err
returns-in-Err c =
    rw c.not_done.ensures (
    answered_none c.args.file.now _ _ _ _ _ (line_stopped _ _ _ _ _ (stopped (parse c.args.file.now) _ c.ready.ensures.0 c.in-Err.is) (some_reason c.in-Err.reason)) (some_reason c.in-Err.reason))

pub returns-then-unfinished-gt2 : goal.returns-then-unfinished-gt2
returns-then-unfinished-gt2 c =
    let is_free : Ready c.args.file.now c.ready.new.image (state_in c.args.cells.now c.args.holds.now) = is_ready _ c.ready.ensures c.in_default.is in
    rw c.not_done-then-unfinished-gt2.ensures (answered_none c.args.file.now _ _ _ _ _ (line_long _ _ _ _ _ is_free.free refl c.if-unfinished-gt2.true) some_ill)

pub returns-then-waiting-eq0 : goal.returns-then-waiting-eq0
unfolding unfinished_cells ended end_lines
returns-then-waiting-eq0 c =
    let is_free : Ready c.args.file.now c.ready.new.image (state_in c.args.cells.now c.args.holds.now) = is_ready _ c.ready.ensures c.in_default.is in
    let n = none_unfinished c.args.unfinished.now c.waiting.ensures c.if-waiting-eq0.true in
    rw c.done.ensures (
    answered_all c.args.file.now _ _ _ _ _ (playing_start is_free (line_free _ _ _ _ _ is_free.free c.if-unfinished-gt2.false (omega (arith, n))) n (omega arith))
    (omega arith) refl)

pub returns-then-out-lt1 : goal.returns-then-out-lt1
returns-then-out-lt1 c =
    let is_free : Ready c.args.file.now c.ready.new.image (state_in c.args.cells.now c.args.holds.now) = is_ready _ c.ready.ensures c.in_default.is in
    let n = one_unfinished c.args.unfinished.now c.waiting.ensures c.if-waiting-eq0.false in
    rw c.not_done-then-out-lt1.ensures (
    answered_none c.args.file.now _ _ _ _ _ (line_crowded _ _ _ _ _ is_free.free c.if-unfinished-gt2.false (omega (arith, n, c.if-out-lt1.true))) (λ z. omega arith))

pub say-written-requires : goal.say-written-requires
say-written-requires c =
    let is_free : Ready c.args.file.now c.ready.new.image (state_in c.args.cells.now c.args.holds.now) = is_ready _ c.ready.ensures c.in_default.is in
    record { readable = readable_image is_free.read; line_most_in_bounds = omega (arith, c.if-out-lt1.false) }

pub returns : goal.returns
unfolding unfinished_cells ended end_lines
returns c =
    let is_free : Ready c.args.file.now c.ready.new.image (state_in c.args.cells.now c.args.holds.now) = is_ready _ c.ready.ensures c.in_default.is in
    let n = one_unfinished c.args.unfinished.now c.waiting.ensures c.if-waiting-eq0.false in
    rw c.done-2.ensures (answered_all c.args.file.now _ _ _ _ _
    (playing_turn (playing_start is_free (line_free _ _ _ _ _ is_free.free c.if-unfinished-gt2.false (omega (arith, n, c.if-out-lt1.false))) n (lines_room c.if-out-lt1.false))
    (omega arith) (unfinished_unknown c.args.unfinished.now c.waiting.ensures c.if-waiting-eq0.false) answer_most refl c.say-written.ensures.0 c.say-written.ensures.1)
    (omega arith) refl)
