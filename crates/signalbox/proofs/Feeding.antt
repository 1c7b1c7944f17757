-- Lines, with an unfinished event before them and after them. Assumes nothing.
use mathlib.Core.Path.{◌≡◌, refl, sym, ◌∙◌}
use mathlib.Core.Bool.{true}
use mathlib.Core.Logic.{◌≢◌, inl, inr}
use mathlib.Core.List.{List, [], ◌∷◌}
use Prim.Native.Nat.{ℕ, ◌*◌, ◌/◌, ◌≤◌}
use native.Mathlib.Omega.{arith}
use lib.ListN.{length, get_or}
use borrow.Author.Tests.{lt-ltb, le-ltb}
use Rattle.laws.specs.Tests.{split, below?}
use Rattle.plan.specs.Records.{Plan}
use Rattle.plan.specs.File.{Readable}
use Rattle.reading.specs.Reading.{Got, form, got, parse}
use Rattle.reading.proofs.Meaning.{reads_readable}
use Rattle.state.specs.declared.State.{State}
use Rattle.state.specs.State.{fresh, well_formed}
use Rattle.state.proofs.Formed.{formed, passes}
use Rattle.events.specs.declared.Event.{Event}
use Rattle.events.specs.declared.Event.TheVariants.{Unknown}
use Rattle.events.specs.Events.{events_of, unfinished_in, unfinished_cells}
use Rattle.events.specs.After.{next_state}
use Rattle.events.proofs.Bytes.{event_short}
use Rattle.events.proofs.Kept.{fresh_formed, next_formed}
use Rattle.events.proofs.Pieces.{events_length, events_at, waiting_count}
use Rattle.lines.specs.Lines.{answer_line, line_most}
use Rattle.demands.specs.Demands.{reached}
use Rattle.demands.specs.Ours.{ours}
use Rattle.demands.specs.Session.{state_after}
use Rattle.codes.specs.Codes.{read_code}
use Rattle.signalbox.specs.Face.{in_the_way, too_long, unless, Answered}
use Rattle.signalbox.proofs.Faced.{some_form, some_ill}
use Rattle.signalbox.proofs.Playing.{Playing, none_kept, played_none, playing_end}

module _ (file : List ℕ) (σ : State) {reason : ℕ} (events : List Event) (left unfinished out : List ℕ) where
  pub answered_none : {c : ℕ} → c ≡ reason → c ≢ 0
      → Answered (parse file) σ unfinished reason events left out (record { code = c; written = 0 }) σ unfinished out
  answered_none e d = record { played = played_none answer_line file σ events out e d; kept = none_kept (unfinished_cells left) unfinished (λ z. d (e ∙ z)) }

  pub answered_all : {image : List ℕ} {count i : ℕ} {τ : State} {out' : List ℕ} {at : ℕ}
      → Playing answer_line line_most file image reason events σ out count i τ out' at → count ≤ i → {unfinished' : List ℕ} → unfinished' ≡ unfinished_cells left
      → Answered (parse file) σ unfinished reason events left out (record { code = 0; written = at }) τ unfinished' out'
  unfolding unless
  answered_all l h k = record { played = playing_end l h; kept = rw l.free k }

-- What is unfinished has no more than two bytes.

pub short : (unfinished : List ℕ) → too_long unfinished ≡ 0 → get_or unfinished 0 0 ≤ 2
unfolding too_long
short unfinished e = elim (below? 2 (get_or unfinished 0 0)) [
  | inl h ↦ absurd (some_ill (rw (lt-ltb 2 (get_or unfinished 0 0) h) at e))
  | inr h ↦ h
]

pub brief : (bytes : List ℕ) → length bytes ≤ 2 → too_long (unfinished_cells bytes) ≡ 0
unfolding too_long unfinished_cells
brief bytes h = rw (le-ltb 2 (length bytes) h)

-- each line has room
pub lines_room : {count room : ℕ} → count ≤ room / line_most → line_most * count ≤ room
lines_room h = omega arith

-- At the end of the input there is no event, or an incomplete one.
module _ (unfinished : List ℕ) {count : ℕ} (e : count ≡ length (unfinished_in unfinished)) where
  pub none_unfinished : count ≡ 0 → 0 ≡ length (events_of (unfinished_in unfinished))
  none_unfinished z = let n = events_length (unfinished_in unfinished) in omega arith

  pub one_unfinished : count ≢ 0 → 1 ≡ length (events_of (unfinished_in unfinished))
  one_unfinished z = let n = events_length (unfinished_in unfinished) in let w = waiting_count unfinished in omega arith

  pub unfinished_unknown : count ≢ 0 → Unknown ≡ get_or (events_of (unfinished_in unfinished)) 0 Unknown
  unfinished_unknown z =
      let n = one_unfinished z in
      let w = waiting_count unfinished in
      event_short (unfinished_in unfinished) 0 (omega arith) ∙ sym (events_at (unfinished_in unfinished) 0 (omega arith))

-- Where nothing was in the way, nothing is after any events.

formed_after : (p : Plan) → Readable p → (σ : State) (events : List Event) → well_formed p σ ≡ true → well_formed p (reached ours p σ events) ≡ true
unfolding reached
formed_after p R σ [] f = f
formed_after p R σ (e ∷ events) f = formed_after p R (next_state p σ e) events (passes p _ (next_formed p R σ e (formed p σ f)))

pub still_free : (file : List ℕ) (σ : State) (events : List Event) → in_the_way (parse file) σ ≡ 0 → in_the_way (parse file) (state_after (parse file) σ events) ≡ 0
unfolding in_the_way state_after
still_free file σ events f = go (parse file) refl f
  where
    go : (g : Got Plan) → parse file ≡ g → in_the_way g σ ≡ 0 → in_the_way g (state_after g σ events) ≡ 0
    go (form x) q e = e
    go (got p at rest) q e = elim (split (well_formed p σ)) [
      | inl y ↦ rw (formed_after p (reads_readable file q).1 σ events y)
      | inr y ↦ absurd (some_ill (rw y at e))
    ]

-- At the fresh state nothing is in the way of a plan that reads.
pub fresh_free : (file : List ℕ) (σ : State) → σ ≡ fresh → read_code (parse file) ≡ 0 → in_the_way (parse file) σ ≡ 0
unfolding in_the_way read_code
fresh_free file σ z r = rw z (go (parse file) refl r)
  where
    go : (g : Got Plan) → parse file ≡ g → read_code g ≡ 0 → in_the_way g fresh ≡ 0
    go (form f) q e = absurd (some_form f e)
    go (got p at rest) q e = rw (passes p fresh (fresh_formed p (reads_readable file q).1))
