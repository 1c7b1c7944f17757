-- Playing events one by one: the state and what is written are those of the events so far. A run writes codes, feeding and finishing write lines;
-- the reasons against it, the steps and the ways out are the same. Assumes nothing.
use mathlib.Core.Path.{◌≡◌, refl, sym, ap, subst, ◌∙◌}
use mathlib.Core.Bool.{true}
use mathlib.Core.Logic.{◌≢◌}
use mathlib.Core.List.{List, [], ◌∷◌, ◌++◌, append-nil}
use Prim.Native.Nat.{ℕ, zero, suc, ◌+◌, ◌-◌, ◌*◌, ◌/◌, ◌<◌, ◌≤◌}
use native.Mathlib.Nat.{zero-add, sub-zero, mul-suc}
use native.Mathlib.Numerals.{add-one}
use native.Mathlib.Omega.{arith}
use lib.ListN.{length, get_or, take, set}
use lib.Seq.{take-suc, take_all, length-sets}
use borrow.Author.Tests.{lt-ltb, le-ltb}
use Rattle.laws.specs.Lists.{joined}
use Rattle.plan.specs.Records.{Plan}
use Rattle.plan.specs.File.{Readable}
use Rattle.plan.specs.Image.{plan_of}
use Rattle.reading.specs.Reading.{Got, form, got, parse}
use Rattle.state.specs.declared.State.{State}
use Rattle.state.specs.State.{well_formed}
use Rattle.state.proofs.Formed.{formed, passes}
use Rattle.events.specs.declared.Event.{Event}
use Rattle.events.specs.declared.Event.TheVariants.{Unknown}
use Rattle.events.specs.declared.Refusal.TheVariants.{IllFormed}
use Rattle.events.specs.declared.Answer.{Answer}
use Rattle.events.specs.declared.Answer.TheVariants.{Refused}
use Rattle.events.specs.Answers.{refusal_number, refusal_values, answer_number, answer_values}
use Rattle.events.specs.Decide.{decided, answer}
use Rattle.events.specs.After.{after, next_state}
use Rattle.events.proofs.Kept.{next_formed}
use Rattle.lines.specs.Lines.{line_most}
use Rattle.laws.specs.Written.{Wrote, wrote_then, wrote_byte}
use Rattle.demands.specs.Demands.{history, reached}
use Rattle.demands.specs.Ours.{ours}
use Rattle.demands.specs.Session.{answers_of, state_after, Carries}
use Rattle.demands.proofs.Demand3.{reached_append, history_append}
use Rattle.demands.proofs.Session.{goes_on, none_after, joined_append}
use Rattle.codes.specs.Codes.{packed, answer_code, no_room}
use Rattle.signalbox.specs.Face.{first_reason, in_the_way, too_long, too_many, run_reason, line_reason, unless, code_of, Played}
use Rattle.signalbox.proofs.Faced.{Ready, readable_image}

-- Reasons against it, tried in order.

first_stops : (n : ℕ) (reasons : List ℕ) → n ≢ 0 → n ≡ first_reason (n ∷ reasons)
unfolding first_reason
first_stops zero reasons d = absurd (d refl)
first_stops (suc n) reasons d = refl

module _ (g : Got Plan) (σ : State) (events : List Event) (room : ℕ) where
  pub run_stopped : {c : ℕ} → c ≡ in_the_way g σ → c ≢ 0 → c ≡ run_reason g σ events room
  unfolding run_reason
  run_stopped {c} e d = rw (← e) (first_stops c _ d)

  module _ (f : in_the_way g σ ≡ 0) where
    pub run_crowded : room < length events → no_room ≡ run_reason g σ events room
    unfolding run_reason first_reason too_many
    run_crowded h = rw (f, lt-ltb room (length events) h)

    pub run_free : length events ≤ room → run_reason g σ events room ≡ 0
    unfolding run_reason first_reason too_many
    run_free h = rw (f, le-ltb room (length events) h)

  module _ (unfinished : List ℕ) where
    pub line_stopped : {c : ℕ} → c ≡ in_the_way g σ → c ≢ 0 → c ≡ line_reason g σ unfinished events room
    unfolding line_reason
    line_stopped {c} e d = rw (← e) (first_stops c _ d)

    module _ (f : in_the_way g σ ≡ 0) where
      pub line_long : {c : ℕ} → c ≡ answer_code (Refused IllFormed) → 2 < get_or unfinished 0 0 → c ≡ line_reason g σ unfinished events room
      unfolding line_reason first_reason too_long answer_code packed answer_number refusal_number answer_values refusal_values
      line_long e h = rw (f, lt-ltb 2 (get_or unfinished 0 0) h) e

      pub line_crowded : get_or unfinished 0 0 ≤ 2 → room / line_most < length events → no_room ≡ line_reason g σ unfinished events room
      unfolding line_reason first_reason too_long too_many
      line_crowded k h = rw (f, le-ltb 2 (get_or unfinished 0 0) k, lt-ltb (room / line_most) (length events) h)

      pub line_free : get_or unfinished 0 0 ≤ 2 → length events ≤ room / line_most → line_reason g σ unfinished events room ≡ 0
      unfolding line_reason first_reason too_long too_many
      line_free k h = rw (f, le-ltb 2 (get_or unfinished 0 0) k, le-ltb (room / line_most) (length events) h)

-- What is played, and what is then handed back and left.

pub none_kept : {reason : ℕ} {A : Type 0} (x y : A) → reason ≢ 0 → y ≡ unless reason x y
unfolding unless
none_kept {reason = zero} x y d = absurd (d refl)
none_kept {reason = suc n} x y d = refl

all_kept : {reason : ℕ} {A : Type 0} (x y : A) → reason ≡ 0 → x ≡ unless reason x y
unfolding unless
all_kept x y e = rw e

nothing : (out : List ℕ) → Wrote [] out 0 out 0
nothing out = record { written = refl; ends = refl; within = omega arith }

none_written : (write : Answer → List ℕ) (g : Got Plan) (σ : State) (out : List ℕ) → Wrote (joined write (answers_of g σ [])) out 0 out 0
unfolding joined answers_of history
none_written write (form f) σ out = nothing out
none_written write (got p at rest) σ out = nothing out

module _ (write : Answer → List ℕ) (file : List ℕ) (σ : State) {reason : ℕ} (events : List Event) (out : List ℕ) where
  these : {c : ℕ} (l : List Event) → l ≡ unless reason events [] → c ≡ reason → {τ : State} {out' : List ℕ} {n : ℕ} → τ ≡ state_after (parse file) σ l
      → Wrote (joined write (answers_of (parse file) σ l)) out 0 out' n → Played write (parse file) σ reason events out (record { code = c; written = n }) τ out'
  these l e k {τ} {out'} {n} s w =
      let z : τ ≡ state_after (parse file) σ (unless reason events []) = s ∙ ap (state_after (parse file) σ) e in
      record {
        code = k;
        state = z;
        written = subst (λ x. Wrote (joined write (answers_of (parse file) σ x)) out 0 out' n) e w;
        carries = subst (Carries (parse file) σ (unless reason events [])) (sym z) (goes_on file σ _);
      }

  pub played_none : {c : ℕ} → c ≡ reason → c ≢ 0 → Played write (parse file) σ reason events out (record { code = c; written = 0 }) σ out
  played_none e d = these [] (none_kept events [] (λ z. d (e ∙ z))) e (sym (none_after (parse file) σ)) (none_written write (parse file) σ out)

  pub played_all : {τ : State} {out' : List ℕ} {n : ℕ} → reason ≡ 0 → τ ≡ state_after (parse file) σ events
      → Wrote (joined write (answers_of (parse file) σ events)) out 0 out' n → Played write (parse file) σ reason events out (record { code = 0; written = n }) τ out'
  played_all e s w = these events (all_kept events [] e) (sym e) s w

-- One event more.

joined_more : (f : Answer → List ℕ) (l : List Answer) (a : Answer) → joined f (l ++ (a ∷ [])) ≡ joined f l ++ f a
unfolding joined
joined_more f l a = joined_append f l (a ∷ []) ∙ ap (λ (x : List ℕ). joined f l ++ x) (append-nil (f a))

module _ (p : Plan) where
  reached_more : (σ : State) (a : List Event) (e : Event) → reached ours p σ (a ++ (e ∷ [])) ≡ next_state p (reached ours p σ a) e
  unfolding reached
  reached_more σ a e = reached_append ours p σ a (e ∷ [])

  history_more : (σ : State) (a : List Event) (e : Event) → history ours p σ (a ++ (e ∷ [])) ≡ history ours p σ a ++ (answer p (reached ours p σ a) e ∷ [])
  unfolding history
  history_more σ a e = history_append ours p σ a (e ∷ [])

  -- in a well-formed state the answer is what is decided
  when_formed : (σ : State) (e : Event) → well_formed p σ ≡ true → answer p σ e ≡ decided p σ e
  unfolding answer
  when_formed σ e f = rw f

-- a code takes one place
pub short : (a : Answer) → length (code_of a) ≤ 1
short a = omega arith

pub wrote_code : (a : Answer) {code : ℕ} {out : List ℕ} {at : ℕ} → code ≡ answer_code a → at + 1 ≤ length out → Wrote (code_of a) out at (set out at code) (at + 1)
wrote_code a {code = code} {out = out} {at = at} e h = rw (← e) (wrote_byte code out at (omega arith))

-- What holds after the first i events: all that was known before them, the state reached and what is written. Each of the others has room.
pub record Playing (write : Answer → List ℕ) (most : ℕ) (file image : List ℕ) (reason : ℕ) (events : List Event) (σ₀ : State) (out₀ : List ℕ) (count i : ℕ) (σ : State) (out : List ℕ) (at : ℕ) : Type 0 where
  pub ready : Ready file image σ₀
  pub free : reason ≡ 0
  pub counted : count ≡ length events
  pub within : i ≤ count
  pub formed : well_formed (plan_of image) σ ≡ true
  pub room : at + most * (count - i) ≤ length out₀
  pub state : σ ≡ reached ours (plan_of image) σ₀ (take i events)
  pub written : Wrote (joined write (history ours (plan_of image) σ₀ (take i events))) out₀ 0 out at

pub playing_start : {write : Answer → List ℕ} {most : ℕ} {file image : List ℕ} {reason : ℕ} {events : List Event} {σ₀ : State} {out₀ : List ℕ} {count : ℕ} → Ready file image σ₀
    → reason ≡ 0 → count ≡ length events → most * count ≤ length out₀ → Playing write most file image reason events σ₀ out₀ count 0 σ₀ out₀ 0
unfolding joined history reached
playing_start {out₀ = out₀} w e k h = record {
  ready = w;
  free = e;
  counted = k;
  within = omega arith;
  formed = w.formed;
  room = rw (sub-zero, zero-add) h;
  state = refl;
  written = nothing out₀;
}

module _ {write : Answer → List ℕ} {most : ℕ} {file image : List ℕ} {reason : ℕ} {events : List Event} {σ₀ : State} {out₀ : List ℕ} {count i : ℕ} {σ : State} {out : List ℕ} {at : ℕ}
    (l : Playing write most file image reason events σ₀ out₀ count i σ out at) where
  abbrev p : Plan
  p = plan_of image

  abbrev done : List Event
  done = take i events

  pub playing_readable : Readable p
  playing_readable = readable_image l.ready.read

  pub playing_same : length out ≡ length out₀
  playing_same = ap length l.written.written ∙ length-sets out₀ 0 (joined write (history ours p σ₀ done))

  module _ (h : i < count) where
    left : at + most + most * (count - (i + 1)) ≤ length out₀
    left = let z : count - i ≡ suc (count - (i + 1)) = omega arith in let r = rw (z, mul-suc) at l.room in omega arith

    pub playing_room : at + most ≤ length out
    playing_room = omega (arith, left, playing_same)

    pub playing_there : i < length events
    playing_there = omega (arith, l.counted)

    module _ {event : Event} (n : event ≡ get_or events i Unknown) where
      one_more : take (i + 1) events ≡ done ++ (event ∷ [])
      one_more = rw (add-one i, n) (take-suc events i Unknown playing_there)

      state_more : next_state p σ event ≡ reached ours p σ₀ (take (i + 1) events)
      state_more = ap (λ (s : State). next_state p s event) l.state ∙ sym (ap (reached ours p σ₀) one_more ∙ reached_more p σ₀ done event)

      written_more : joined write (history ours p σ₀ (take (i + 1) events)) ≡ joined write (history ours p σ₀ done) ++ write (answer p σ event)
      written_more =
          ap (joined write) (ap (history ours p σ₀) one_more ∙ history_more p σ₀ done event) ∙ joined_more write _ _
          ∙ ap (λ (s : State). joined write (history ours p σ₀ done) ++ write (answer p s event)) (sym l.state)

      pub playing_turn : ((a : Answer) → length (write a) ≤ most) → {a : Answer} {τ : State} {out' : List ℕ} {at' : ℕ} → a ≡ decided p σ event → τ ≡ after p σ (decided p σ event)
          → Wrote (write a) out at out' at' → Playing write most file image reason events σ₀ out₀ count (i + 1) τ out' at'
      unfolding next_state
      playing_turn short {a} {τ} d t w =
          let e : decided p σ event ≡ answer p σ event = sym (when_formed p σ event l.formed) in
          let u : τ ≡ next_state p σ event = t ∙ ap (after p σ) e in
          record {
            ready = l.ready;
            free = l.free;
            counted = l.counted;
            within = omega arith;
            formed = rw u (passes p _ (next_formed p playing_readable σ event (formed p σ l.formed)));
            room = omega (arith, w.ends, short a, left);
            state = u ∙ state_more;
            written = rw (written_more, ← e, ← d) (wrote_then l.written w);
          }

  -- all were played
  pub playing_end : count ≤ i → Played write (parse file) σ₀ reason events out₀ (record { code = 0; written = at }) σ out
  unfolding answers_of state_after
  playing_end h =
      let w = l.ready.read in
      let e : take i events ≡ events = take_all i events (omega (arith, l.counted)) in
      played_all write file σ₀ events out₀ l.free (rw w.parses (rw (e, w.shows) at l.state)) (rw w.parses (rw (e, w.shows) at l.written))

  -- all were played, each in one place
  pub playing_counted : count ≤ i → at ≡ i → Played write (parse file) σ₀ reason events out₀ (record { code = 0; written = count }) σ out
  playing_counted h e = let z : at ≡ count = omega (arith, e, l.within) in rw (← z) (playing_end h)
