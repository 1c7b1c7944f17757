-- Our box: what the code of the rooms below answers and leaves, as their contracts say it, and what is shown of it. The demands stand in
-- Demands.antt; the proofs in proofs/Ours.antt.
use Rattle.std.specs.Prelude.{◌≡◌, List, ℕ, length, Ok}
use Rattle.plan.specs.declared.Release.{Release}
use Rattle.plan.specs.Records.{Plan, Route, Entry}
use Rattle.plan.specs.declared.Track.{Track}
use Rattle.reading.specs.Reading.{got, parse}
use Rattle.forms.specs.Shown.{OneForm, Longest}
use Rattle.forms.specs.Rows.{TrackRow, ReleaseRow, RouteRow, EntryRow}
use Rattle.writing.specs.Writing.{written, after_writing}
use Rattle.rules.specs.Verdict.{verdict}
use Rattle.state.specs.State.{fresh}
use Rattle.events.specs.Events.{events_of}
use Rattle.events.specs.Decide.{answer}
use Rattle.events.specs.After.{next_state}
use Rattle.demands.specs.Demands.{Box, Demand2, Demand3, Reads, Writer, Writes, RoundTrip, Judges, NamesTrain, NamesHeld, KeepsOwn, Settled, Agreement, Safe, history, reached}

-- the answer of events/specs/Decide.antt, and the state of events/specs/After.antt that goes by it
abbrev pub ours : Box
ours = record { answer = answer; next = next_state }

-- what writing/specs/Writing.antt answers and leaves
abbrev pub our_writer : Writer
our_writer = record { answer = λ image out. written image (length out); leaves = λ image out. after_writing image (written image (length out)) out }

pub record Shown : Type 0 where
  -- demand 2: exactly the written answer and next state; accepted exactly when the twelve sentences hold, else the lowest rule and row
  pub exact : Demand2 ours
  pub judged : Judges verdict
  -- demand 2 of reading: the plan, or the one form that the file has; the largest file; which byte of a row is which
  pub read : Reads parse
  pub one_form_lem : (file : List ℕ) → OneForm file
  pub longest : Longest
  pub track_rows_lem : (t : Track) → TrackRow t
  pub release_rows : (q : Release) → ReleaseRow q
  pub route_rows : (r : Route) → RouteRow r
  pub entry_rows : (e : Entry) → EntryRow e
  -- demand 2 of writing: the one file that reads as the image, or the reason why it is not written; what was read comes back, and what is read back is
  -- what was given
  pub writes : Writes parse our_writer
  pub round_trip : RoundTrip parse our_writer
  -- demand 3, of every plan that is accepted, and so of every file that reads as one and of any bytes as events
  pub safe : Demand3 ours
  pub file_safe : (file bytes : List ℕ) {p : Plan} {at : ℕ} {rest : List ℕ} → parse file ≡ got p at rest → verdict p ≡ Ok tt
      → Safe p (history ours p fresh (events_of bytes)) (reached ours p fresh (events_of bytes))
  -- 13 names the lowest track of the clear list that has a train, and the train that stands there; and is said where it can be
  pub names_train : NamesTrain ours
  -- 14 names the lowest point that is held and lies otherwise than the grant would leave it; what is granted turns no point that is held
  pub names_held : NamesHeld ours
  -- several routes may hold one point, and each gives back only its own hold
  pub own_holds : KeepsOwn ours
  -- a point lies as each of its holders would leave it, on bad plans too
  pub settled : Settled ours
  -- two states that agree on what a request looks at
  pub agrees : Agreement ours
