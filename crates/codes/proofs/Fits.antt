-- What an answer names is there, and all that is there has a number that is a byte: so number and values of every answer are bytes.
use Rattle.std.specs.Prelude.{Some}
use mathlib.Core.Path.{◌≡◌}
use mathlib.Core.Logic.{inl, inr}
use mathlib.Core.Bool.{not, ◌&&◌}
use mathlib.Core.List.{List, [], ◌∷◌}
use Prim.Native.Nat.{ℕ, zero, suc, ◌<◌}
use native.Mathlib.Omega.{arith}
use lib.ListN.{length, get_or, take, drop}
use lib.Dec.{eqb, ltb, lit≤}
use borrow.Author.Tests.{ltb-true}
use Rattle.laws.specs.Tests.{clash, below?, and_l}
use Rattle.laws.specs.Lists.{All, all_at}
use Rattle.laws.specs.Search.{lowest_at, cond_ind, unless_ind}
use Rattle.plan.specs.Kinds.{exit}
use Rattle.plan.specs.Limits.{most_tracks}
use Rattle.plan.specs.Records.{Plan, home_of, route_of, entry_of, track_of}
use Rattle.plan.specs.File.{Readable}
use Rattle.plan.proofs.Says.{exit_is}
use Rattle.state.specs.declared.State.{State}
use Rattle.state.specs.State.{no_train, well_formed}
use Rattle.state.specs.Cells.{trains_from, part, trains_in}
use Rattle.events.specs.declared.Event.{Event}
use Rattle.events.specs.declared.Event.TheVariants.{Request, Cancel, Enter, Move, Unknown}
use Rattle.events.specs.declared.Answer.{Answer}
use Rattle.events.specs.Answers.{refusal_values, harm_values, deed_values, answer_values}
use Rattle.events.specs.Events.{event_of, first_event, events_of}
use Rattle.events.specs.Decide.{has_train, is_red, is_green, is_reverse, busy, held_other, derails, stands, busy_train, held_point, derailed_point, front_of, in_plan, way_out, runs_through}
use Rattle.events.specs.Decide.{answer_request, answer_cancel, answer_enter, move_to, move_from, answer_move, decided, answer}
use Rattle.events.proofs.Facts.{get_or_none, few_tracks_lem, few_signals, few_routes, home_below, start_below, entry_below, out_below}
use Rattle.events.proofs.Busy.{unless_train_ind, busy_train_at}
use Rattle.events.proofs.Reflect.{red_at_lem}
use Rattle.codes.specs.Decoding.{Byte, ByteEvent}

-- Events of bytes.

event_fits : (kind x y : ℕ) → Byte x → Byte y → ByteEvent (event_of kind x y)
unfolding event_of
event_fits kind x y h k =
    cond_ind ByteEvent (eqb kind 3) (λ _. (h, k))
    (λ _. cond_ind ByteEvent (eqb y 0)
    (λ _. cond_ind ByteEvent (eqb kind 1) (λ _. h) (λ _. cond_ind ByteEvent (eqb kind 2) (λ _. h) (λ _. cond_ind ByteEvent (eqb kind 4) (λ _. h) (λ _. tt))))
    (λ _. tt))

pub first_fits : (bytes : List ℕ) → All Byte bytes → ByteEvent (first_event bytes)
unfolding All first_event
first_fits [] w = tt
first_fits (a ∷ []) w = tt
first_fits (a ∷ (b ∷ [])) w = tt
first_fits (a ∷ (b ∷ (c ∷ rest))) w = event_fits a b c w.1.0 w.1.1.0

pub events_fit : (bytes : List ℕ) → All Byte bytes → All ByteEvent (events_of bytes)
unfolding All events_of
events_fit [] w = tt
events_fit (a ∷ []) w = (tt, tt)
events_fit (a ∷ (b ∷ [])) w = (tt, tt)
events_fit (a ∷ (b ∷ (c ∷ rest))) w = (event_fits a b c w.1.0 w.1.1.0, events_fit rest w.1.1.1)

-- Trains of cells that are bytes: a train is a cell, or there is none.

all_drop : (k : ℕ) (l : List ℕ) → All Byte l → All Byte (drop k l)
unfolding All
all_drop zero l w = w
all_drop (suc k) [] w = tt
all_drop (suc k) (a ∷ l) w = all_drop k l w.1

all_take : (k : ℕ) (l : List ℕ) → All Byte l → All Byte (take k l)
unfolding All
all_take zero l w = tt
all_take (suc k) [] w = tt
all_take (suc k) (a ∷ l) w = (w.0, all_take k l w.1)

pub trains_fit : (cells : List ℕ) → All Byte cells → All Byte (trains_in cells)
unfolding trains_in part
trains_fit cells w = all_take most_tracks (drop trains_from cells) (all_drop trains_from cells w)

-- Answers, test by test.

abbrev Fit : Answer → Type 0
Fit a = All Byte (answer_values a)

module _ (p : Plan) (R : Readable p) (σ : State) (bytes : All Byte σ.trains) where
  train_byte : (u : ℕ) → Byte (get_or σ.trains u no_train)
  train_byte u = elim (below? u (length σ.trains)) [ inl h ↦ all_at Byte σ.trains u no_train bytes h | inr h ↦ rw (get_or_none σ.trains u no_train h) (lit≤ tt) ]

  track_byte : (u : ℕ) → u < length p.tracks → Byte u
  track_byte u h = let k = few_tracks_lem p R in omega arith

  -- what 13 names: a track that was found, and the train on it
  busy_byte : (clear : List ℕ) {u train : ℕ} → busy_train (length p.tracks) clear σ.trains ≡ Some (u, train) → Byte u × Byte train
  busy_byte clear {u} e =
      let (at, stands) = busy_train_at (length p.tracks) clear σ.trains e in
      (track_byte u (lowest_at _ (busy clear σ.trains) at).below, rw (← stands) (train_byte u))

  signal_byte : (s : ℕ) → s < length p.signals → Byte s
  signal_byte s h = let k = few_signals p R in omega arith

  route_byte : (r : ℕ) → r < length p.routes → Byte r
  route_byte r h = let k = few_routes p R in omega arith

  request_fits : (r : ℕ) → r < length p.routes → Fit (answer_request p σ r)
  unfolding All answer_request held_point derailed_point answer_values refusal_values harm_values deed_values
  request_fits r h =
      cond_ind Fit (is_red σ.signals (route_of p r).start)
      (λ _. unless_train_ind Fit _ _ _ (λ u train e. let (track, train) = busy_byte (route_of p r).clear e in (track, (train, tt)))
      (λ _. unless_ind Fit _ _ _ (λ q e. (track_byte q (lowest_at _ (held_other (route_of p r).normal (route_of p r).reverse σ.lies σ.holds) e).below, tt))
      (λ _. unless_ind Fit _ _ _ (λ q e. (track_byte q (lowest_at _ (derails (route_of p r).normal (route_of p r).reverse σ.trains σ.lies) e).below, tt))
      (λ _. (route_byte r h, tt)))))
      (λ _. tt)

  cancel_fits : (r : ℕ) → r < length p.routes → Fit (answer_cancel p σ.trains σ.signals r)
  unfolding All answer_cancel answer_values refusal_values deed_values
  cancel_fits r h =
      cond_ind Fit (is_green σ.signals (route_of p r).start r)
      (λ _. cond_ind Fit (has_train σ.trains (home_of p (route_of p r).start)) (λ _. (track_byte _ (home_below p R _ (start_below p R r h)), tt))
      (λ _. (route_byte r h, tt)))
      (λ _. tt)

  enter_fits : (e train : ℕ) → e < length p.entries → Byte train → Fit (answer_enter p σ.trains e train)
  unfolding All answer_enter answer_values refusal_values harm_values deed_values
  enter_fits e train h k =
      let on = track_byte _ (entry_below p R e h) in
      cond_ind Fit (in_plan p σ.trains train) (λ _. tt)
      (λ _. unless_train_ind Fit _ _ _ (λ u other e'. let (track, other) = busy_byte (entry_of p e).clear e' in (track, (other, tt)))
      (λ _. cond_ind Fit (has_train σ.trains (entry_of p e).track) (λ _. (on, tt))
      (λ _. (k, (on, tt)))))

  to_fits : (train u v : ℕ) → Byte train → Byte u → Byte v → Fit (move_to p σ.trains σ.lies train u v)
  unfolding All move_to answer_values harm_values deed_values
  to_fits train u v k h j =
      cond_ind Fit (has_train σ.trains v) (λ _. (j, tt))
      (λ _. cond_ind Fit (runs_through p σ.lies u v) (λ _. (j, tt))
      (λ _. (k, (h, (j, tt)))))

  from_fits : (train u : ℕ) → Byte train → u < length p.tracks → Fit (move_from p σ.trains σ.lies σ.signals train u)
  unfolding All move_from way_out answer_values refusal_values deed_values
  from_fits train u k h =
      unless_ind Fit _ _ _ (λ s e. (signal_byte s (red_at_lem p σ R u e).0.0, tt))
      (λ _. cond_ind Fit (exit (track_of p u)) (λ _. (k, (track_byte u h, tt)))
      (λ x. to_fits train u (way_out p σ.lies u) k (track_byte u h)
      (track_byte _ (out_below p R u (is_reverse σ.lies u) h (λ e. clash ((exit_is (track_of p u)).1 e) x)))))

  move_fits : (train : ℕ) → Byte train → Fit (answer_move p σ.trains σ.lies σ.signals train)
  unfolding All answer_move front_of answer_values refusal_values
  move_fits train k = unless_ind Fit _ _ _ (λ u e. from_fits train u k (lowest_at (length p.tracks) (stands σ.trains train) e).below) (λ _. tt)

  decided_fits : (event : Event) → ByteEvent event → Fit (decided p σ event)
  unfolding All decided answer_values refusal_values
  decided_fits (Request r) w = cond_ind Fit (ltb r (length p.routes)) (λ e. request_fits r (ltb-true r (length p.routes) e)) (λ _. tt)
  decided_fits (Cancel r) w = cond_ind Fit (ltb r (length p.routes)) (λ e. cancel_fits r (ltb-true r (length p.routes) e)) (λ _. tt)
  decided_fits (Enter e train) w =
      cond_ind Fit (ltb e (length p.entries) && not (eqb train 0))
      (λ h. enter_fits e train (ltb-true e (length p.entries) (and_l (ltb e (length p.entries)) (not (eqb train 0)) h)) w.1)
      (λ _. tt)
  decided_fits (Move train) w = cond_ind Fit (eqb train 0) (λ _. tt) (λ _. move_fits train w)
  decided_fits Unknown w = tt

  pub values_fit : (event : Event) → ByteEvent event → Fit (answer p σ event)
  unfolding All answer answer_values refusal_values
  values_fit event w = cond_ind Fit (well_formed p σ) (λ _. decided_fits event w) (λ _. tt)
