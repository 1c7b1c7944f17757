-- `signalbox::signalbox_run`: something is in the way, or the codes so far are those of the answers so far.
use Prim.Native.Nat.{◌-◌}
use lib.ListN.{length}
use Rattle.reading.specs.Reading.{parse}
use Rattle.state.specs.Cells.{state_in}
use Rattle.events.specs.Events.{events_of}
use Rattle.signalbox.specs.Face.{code_of, run_reason}
use Rattle.signalbox.proofs.Playing.{Playing}
use Rattle.signalbox.proofs.signalbox_run.Given as goal

abbrev pub invariant-loop-i : goal.invariant-loop-i
invariant-loop-i l =
    Playing code_of 1 l.file l.image (run_reason (parse l.file) (state_in l.initial.cells l.initial.holds) (events_of l.events) (length l.initial.answers)) (events_of l.events) (state_in l.initial.cells l.initial.holds) l.initial.answers l.count l.i
    (state_in l.cells l.holds) l.answers l.i

abbrev pub decreases-loop-i : goal.decreases-loop-i
decreases-loop-i l = l.count - l.i
