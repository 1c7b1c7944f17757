-- `signalbox::signalbox_feed`: something is in the way, or the lines so far are those of the answers so far; then what is left over is kept.
use mathlib.Core.Path.{refl}
use native.Mathlib.Omega.{arith}
use Rattle.reading.specs.Reading.{parse}
use Rattle.state.specs.Cells.{state_in}
use Rattle.lines.proofs.Most.{answer_most}
use Rattle.demands.specs.Session.{fed, fed_lines}
use Rattle.signalbox.proofs.Faced.{Ready, is_ready, stopped, some_reason, some_ill}
use Rattle.signalbox.proofs.Playing.{line_stopped, line_long, line_crowded, line_free, playing_start, playing_readable, playing_room, playing_there, playing_turn}
use Rattle.signalbox.proofs.Feeding.{answered_none, answered_all, lines_room}
use Rattle.signalbox.proofs.signalbox_feed.Goals as goal

pub returns-in-Err : goal.returns-in-Err
returns-in-Err c =
    rw c.not_done.ensures (
    answered_none c.args.file.now _ _ _ _ _ (line_stopped _ _ _ _ _ (stopped (parse c.args.file.now) _ c.ready.ensures.0 c.in-Err.is) (some_reason c.in-Err.reason)) (some_reason c.in-Err.reason))

pub returns-then-unfinished-gt2 : goal.returns-then-unfinished-gt2
returns-then-unfinished-gt2 c =
    let is_free : Ready c.args.file.now c.ready.new.image (state_in c.args.cells.now c.args.holds.now) = is_ready _ c.ready.ensures c.in_default.is in
    rw c.not_done-then-unfinished-gt2.ensures (answered_none c.args.file.now _ _ _ _ _ (line_long _ _ _ _ _ is_free.free refl c.if-unfinished-gt2.true) some_ill)

pub returns-then-out-count : goal.returns-then-out-count
returns-then-out-count c =
    let is_free : Ready c.args.file.now c.ready.new.image (state_in c.args.cells.now c.args.holds.now) = is_ready _ c.ready.ensures c.in_default.is in
    rw c.not_done-then-out-count.ensures (
    answered_none c.args.file.now _ _ _ _ _ (line_crowded _ _ _ _ _ is_free.free c.if-unfinished-gt2.false (rw c.whole_count-count.ensures at c.if-out-count.true)) (λ z. omega arith))

pub loop-i-init : goal.loop-i-init
loop-i-init c =
    let is_free : Ready c.args.file.now c.ready.new.image (state_in c.args.cells.now c.args.holds.now) = is_ready _ c.ready.ensures c.in_default.is in
    let n = c.whole_count-count.ensures in
    playing_start is_free (line_free _ _ _ _ _ is_free.free c.if-unfinished-gt2.false (rw n at c.if-out-count.false)) n (lines_room c.if-out-count.false)

pub whole_event-event-requires : goal.whole_event-event-requires
whole_event-event-requires c = playing_there c.loop-i.invariant c.loop-i-test.true

pub say-at-requires : goal.say-at-requires
say-at-requires c =
    record { readable = playing_readable c.loop-i.invariant; line_most_in_bounds = playing_room c.loop-i.invariant c.loop-i-test.true }

pub loop-i-preserved : goal.loop-i-preserved
loop-i-preserved c =
    let said = c.say-at.ensures in
    playing_turn c.loop-i.invariant c.loop-i-test.true c.whole_event-event.ensures answer_most refl said.0 said.1

pub returns : goal.returns
unfolding fed fed_lines
returns c =
    rw c.done.ensures (answered_all c.args.file.now _ _ _ _ _ c.loop-i.invariant (omega arith) c.keep.ensures)
