-- `signalbox::signalbox_feed`: something is in the way, or the lines so far are those of the answers so far; then what is left over is kept.
use mathlib.Core.List.{◌++◌}
use Prim.Native.Nat.{◌-◌}
use lib.ListN.{length}
use Rattle.reading.specs.Reading.{parse}
use Rattle.state.specs.Cells.{state_in}
use Rattle.events.specs.Events.{whole_events, unfinished_in}
use Rattle.lines.specs.Lines.{answer_line, line_most}
use Rattle.signalbox.specs.Face.{line_reason}
use Rattle.signalbox.proofs.Playing.{Playing}
use Rattle.signalbox.proofs.signalbox_feed.Given as goal

abbrev pub invariant-loop-i : goal.invariant-loop-i
invariant-loop-i l =
    let events = whole_events (unfinished_in l.unfinished ++ l.bytes) in
    let σ₀ = state_in l.initial.cells l.initial.holds in
    Playing answer_line line_most l.file l.image (line_reason (parse l.file) σ₀ l.unfinished events (length l.initial.out)) events σ₀ l.initial.out l.count l.i (state_in l.cells l.holds) l.out l.at

abbrev pub decreases-loop-i : goal.decreases-loop-i
decreases-loop-i l = l.count - l.i
