-- Our box meets the demands: its answers are those of the table, and its states follow from them. The rest holds of every such box. Assumes nothing.
use Rattle.std.specs.Prelude.{Err, Ok}
use mathlib.Core.Path.{refl}
use mathlib.Core.Logic.{◌≢◌}
use Rattle.plan.specs.Records.{Plan}
use Rattle.reading.specs.Reading.{parse}
use Rattle.reading.proofs.Meaning.{reads_readable}
use Rattle.rules.specs.Verdict.{Breaks, verdict, rule_number, rule_row, Verdict}
use Rattle.rules.proofs.Verdicts.{Says, says, accepted_exactly}
use Rattle.events.specs.Events.{events_of}
use Rattle.events.proofs.Given.{given}
use Rattle.events.proofs.Kept.{next_follows}
use Rattle.demands.specs.Demands.{Demand2, Judges}
use Rattle.demands.specs.Ours.{ours, our_writer, Shown}
use Rattle.forms.proofs.Meaning.{one_form_lem}
use Rattle.forms.proofs.Longest.{longest}
use Rattle.forms.proofs.Rows.{track_row_lem, release_row_lem, route_row_lem, entry_row_lem}
use Rattle.demands.proofs.Verdicts.{parse_reads}
use Rattle.demands.proofs.Writing.{our_writes, round_trip}
use Rattle.demands.proofs.Demand3.{demand2→demand3}
use Rattle.demands.proofs.Settled.{demand2→own_holds, demand2→settled}
use Rattle.demands.proofs.Agreement.{demand2→names_train, demand2→names_held, demand2→agreement}

pub exact : Demand2 ours
exact = record { answers = given; states = next_follows }

pub judged : Judges verdict
unfolding rule_number rule_row
judged = record { accepted = λ p R. accepted_exactly p; broken = λ p R n. named p (verdict p) n (says p) }
  where
    named : (p : Plan) (v : Verdict) → v ≢ Ok tt → Says p v → Breaks p (rule_number v) (rule_row v)
    named p (Ok u) n s = absurd (n refl)
    named p (Err b) n s = s

pub shown : Shown
shown = record {
  exact = exact;
  judged = judged;
  read = parse_reads;
  one_form_lem = one_form_lem;
  longest = longest;
  track_rows_lem = track_row_lem;
  release_rows = release_row_lem;
  route_rows = route_row_lem;
  entry_rows = entry_row_lem;
  writes = our_writes;
  round_trip = round_trip parse parse_reads our_writer our_writes;
  safe = demand2→demand3 ours exact;
  file_safe = λ file bytes {p} e v. demand2→demand3 ours exact p (reads_readable file e).1 ((accepted_exactly p).0 v) (events_of bytes);
  names_train = demand2→names_train ours exact;
  names_held = demand2→names_held ours exact;
  own_holds = demand2→own_holds ours exact;
  settled = demand2→settled ours exact;
  agrees = demand2→agreement ours exact;
}
