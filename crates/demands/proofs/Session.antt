-- Sessions: events after events, bytes after bytes, and demand 3 from call to call. Assumes nothing.
use Rattle.std.specs.Prelude.{Ok}
use mathlib.Core.Path.{◌≡◌, refl, sym, ap, ◌∙◌}
use mathlib.Core.List.{List, [], ◌∷◌, ◌++◌, append_assoc, append-nil}
use Prim.Native.Nat.{ℕ}
use Rattle.laws.specs.Lists.{joined}
use Rattle.plan.specs.Records.{Plan}
use Rattle.plan.specs.File.{Readable}
use Rattle.reading.specs.Reading.{Got, form, got, parse}
use Rattle.reading.proofs.Meaning.{reads_readable}
use Rattle.rules.specs.Verdict.{verdict}
use Rattle.rules.proofs.Verdicts.{accepted_exactly}
use Rattle.state.specs.declared.State.{State}
use Rattle.state.specs.State.{fresh}
use Rattle.events.specs.declared.Event.{Event}
use Rattle.events.specs.declared.Answer.{Answer}
use Rattle.events.specs.Events.{events_of, whole_events, left_over}
use Rattle.events.proofs.Pieces.{whole_append, left_append, events_append}
use Rattle.lines.specs.Lines.{answer_line}
use Rattle.demands.specs.Demands.{history, reached, Safe}
use Rattle.demands.specs.Ours.{ours}
use Rattle.demands.specs.Session.{answers_of, state_after, lines_of, first_line, printed, Between, between, begun, whole, fed, fed_lines, ended, end_lines, after_pieces, piece_lines}
use Rattle.demands.specs.Session.{FromFresh, Carries, Sessions}
use Rattle.demands.proofs.Ours.{shown}
use Rattle.demands.proofs.Demand3.{reached_append, history_append}

-- Events after events.

pub joined_append : (f : Answer → List ℕ) (x y : List Answer) → joined f (x ++ y) ≡ joined f x ++ joined f y
unfolding joined
joined_append f [] y = refl
joined_append f (a ∷ x) y = rw (joined_append f x y) (sym (append_assoc (f a) (joined f x) (joined f y)))

pub none_after : (g : Got Plan) (σ : State) → state_after g σ [] ≡ σ
unfolding state_after reached
none_after (form f) σ = refl
none_after (got p at rest) σ = refl

state_then : (g : Got Plan) (σ : State) (a b : List Event) → state_after g σ (a ++ b) ≡ state_after g (state_after g σ a) b
unfolding state_after
state_then (form f) σ a b = refl
state_then (got p at rest) σ a b = reached_append ours p σ a b

lines_then : (g : Got Plan) (σ : State) (a b : List Event) → lines_of g σ (a ++ b) ≡ lines_of g σ a ++ lines_of g (state_after g σ a) b
unfolding lines_of answers_of state_after joined
lines_then (form f) σ a b = refl
lines_then (got p at rest) σ a b = ap (joined answer_line) (history_append ours p σ a b) ∙ joined_append answer_line (history ours p σ a) _

-- Bytes after bytes.

fed_fed : (g : Got Plan) (b : Between) (bytes more : List ℕ) → fed g (fed g b bytes) more ≡ fed g b (bytes ++ more)
unfolding fed
fed_fed g b bytes more =
    let x = b.unfinished ++ bytes in
    rw (← append_assoc b.unfinished bytes more, whole_append x more, left_append x more, state_then g b.state (whole_events x) (whole_events (left_over x ++ more)))

module _ (g : Got Plan) where
  lines_cut : (b : Between) (pieces : List (List ℕ)) → piece_lines g b pieces ≡ lines_of g b.state (events_of (b.unfinished ++ whole pieces))
  unfolding piece_lines end_lines fed_lines fed joined
  lines_cut b [] = rw (append-nil b.unfinished)
  lines_cut b (piece ∷ pieces) =
      let x = b.unfinished ++ piece in
      rw (← append_assoc b.unfinished piece (whole pieces), events_append x (whole pieces), lines_then g b.state (whole_events x) (events_of (left_over x ++ whole pieces)))
      (ap (λ (l : List ℕ). lines_of g b.state (whole_events x) ++ l) (lines_cut (fed g b piece) pieces))

  state_cut : (b : Between) (pieces : List (List ℕ)) → after_pieces g b pieces ≡ between (state_after g b.state (events_of (b.unfinished ++ whole pieces))) []
  unfolding after_pieces ended fed joined
  state_cut b [] = rw (append-nil b.unfinished)
  state_cut b (piece ∷ pieces) =
      let x = b.unfinished ++ piece in
      rw (← append_assoc b.unfinished piece (whole pieces), events_append x (whole pieces), state_then g b.state (whole_events x) (events_of (left_over x ++ whole pieces)))
      (state_cut (fed g b piece) pieces)

cut_anywhere : (file : List ℕ) (pieces : List (List ℕ)) → first_line (parse file) ++ piece_lines (parse file) begun pieces ≡ printed file (whole pieces)
unfolding printed
cut_anywhere file pieces = ap (λ (l : List ℕ). first_line (parse file) ++ l) (lines_cut (parse file) begun pieces)

cut_state : (file : List ℕ) (pieces : List (List ℕ)) → after_pieces (parse file) begun pieces ≡ between (state_after (parse file) fresh (events_of (whole pieces))) []
cut_state file pieces = state_cut (parse file) begun pieces

cut_safe : (file : List ℕ) (pieces : List (List ℕ)) {p : Plan} {at : ℕ} {rest : List ℕ} → parse file ≡ got p at rest → verdict p ≡ Ok tt
    → Safe p (history ours p fresh (events_of (whole pieces))) (after_pieces (parse file) begun pieces).state
unfolding state_after
cut_safe file pieces e v = rw (cut_state file pieces, e) (shown.file_safe file (whole pieces) e v)

-- Call after call.

from_start : (p : Plan) → FromFresh p [] fresh
unfolding history reached
from_start p = record { events = []; answered = refl; state = refl }

pub carried : (p : Plan) (at : ℕ) (rest : List ℕ) → Readable p → (σ τ : State) (events : List Event) → τ ≡ reached ours p σ events → Carries (got p at rest) σ events τ
unfolding Carries
carried p at rest R σ τ events z v before w =
    let d : reached ours p fresh (w.events ++ events) ≡ τ = reached_append ours p fresh w.events events ∙ rw w.state (sym z) in
    let h : history ours p fresh (w.events ++ events) ≡ before ++ history ours p σ events = history_append ours p fresh w.events events ∙ rw (w.answered, w.state) in
    (record { events = w.events ++ events; answered = h; state = d }, rw (← h, ← d) (shown.safe p R ((accepted_exactly p).0 v) (w.events ++ events)))

pub goes_on : (file : List ℕ) (σ : State) (events : List Event) → Carries (parse file) σ events (state_after (parse file) σ events)
unfolding Carries state_after
goes_on file σ events = go (parse file) refl
  where
    go : (g : Got Plan) → parse file ≡ g → Carries g σ events (state_after g σ events)
    go (form f) e = tt
    go (got p at rest) e = carried p at rest (reads_readable file e).1 σ _ events refl

pub sessions : Sessions
sessions = record { any_cut = cut_anywhere; any_state = cut_state; any_safe = cut_safe; starts = from_start; goes_on = goes_on; one_piece = fed_fed }
