-- The chain of tests gives the table's answer and no other, on any plan that can be read: a line for each row, with the test that tells its sentence.
use Rattle.std.specs.Prelude.{None, Option, Some}
use mathlib.Core.Path.{◌≡◌, refl, sym, ◌∙◌, subst}
use mathlib.Core.Bool.{Bool, not, ◌&&◌}
use mathlib.Core.Logic.{◌≢◌, inl, inr, ◌↔◌}
use mathlib.Core.List.{List}
use Prim.Native.Nat.{ℕ, ◌<◌}
use native.Mathlib.Omega.{arith}
use lib.ListN.{length}
use lib.Dec.{eqb, ltb}
use borrow.Author.Tests.{eqb-false, ne_eqb, lt-ltb, ltb-true}
use Rattle.laws.specs.Tests.{Is, never, and_l, and_r, and_i, not_t, not_i}
use Rattle.laws.specs.Lists.{In}
use Rattle.laws.specs.Answers.{NoSuch, Table, names}
use Rattle.laws.specs.Search.{lowest, unless}
use Rattle.laws.specs.Rows.{Finds, Decides, last_row, asks_row, needs_row, needs_not_row, names_row, the_row, found_row, gives_one}
use Rattle.plan.specs.Records.{Plan, home_of, route_of, entry_of, track_of}
use Rattle.plan.specs.File.{Readable}
use Rattle.plan.proofs.Says.{exit_is}
use Rattle.state.specs.declared.State.{State}
use Rattle.state.specs.State.{no_train, train_at, WellFormed}
use Rattle.state.proofs.Formed.{formed, passes}
use Rattle.events.specs.declared.Event.{Event}
use Rattle.events.specs.declared.Event.TheVariants.{Request, Cancel, Enter, Move, Unknown}
use Rattle.events.specs.declared.Refusal.TheVariants.{Occupied}
use Rattle.events.specs.declared.Answer.{Answer}
use Rattle.events.specs.declared.Answer.TheVariants.{Refused}
use Rattle.events.specs.Answers.{refusal_number}
use Rattle.events.specs.Decide.{busy_train, unless_train, held_point, derailed_point, front_of, red_at, way_out, answer_request, answer_cancel, answer_enter, move_to, move_from, answer_move, decided, answer}
use Rattle.events.specs.Meaning.{Busy, Meets, FrontAt, RedAt, request_table, cancel_table, enter_table, move_table, event_table, table_of, Given}
use Rattle.events.proofs.Facts.{clear_below, listed_below, entry_clear_below, one_signal}
use Rattle.events.proofs.Reflect.{Tells, search_at, search_none, train_tests, red_tests, green_tests, busy_train_tells, held_tells, derails_tells, front_tells, in_tests, red_at_lem, red_none, next_way, way_next, through_tests}
use Rattle.events.proofs.Told.{Entry, Front, Step, Told}

searches : {n : ℕ} {f : ℕ → Bool} {Such : ℕ → Type 0} → Tells n f Such → Finds (lowest n f) Such
searches t = record { at = λ x e. search_at t e; nothing = λ e. search_none t e }

module _ (p : Plan) (R : Readable p) (σ : State) where
  -- the row of 13: what its test finds is passed on
  train_row : (clear : List ℕ) → ((u : ℕ) → In u clear → u < length p.tracks) → {c : Answer} {t : Table Answer}
      → (NoSuch (Busy p σ clear) → Decides Answer (Told p σ) t c)
      → Decides Answer (Told p σ) (names (Busy p σ clear) (λ u. Refused (Occupied u (train_at σ u))) t)
      (unless_train (busy_train (length p.tracks) clear σ.trains) (λ u train. Refused (Occupied u train)) c)
  unfolding unless_train unless refusal_number
  train_row clear below {c} {t} d = go (busy_train (length p.tracks) clear σ.trains) (busy_train_tells p σ clear (length p.tracks) below)
    where
      named : ℕ → Answer
      named u = Refused (Occupied u (train_at σ u))

      found : (o : Option ℕ) → Finds o (Busy p σ clear) → Decides Answer (Told p σ) (names (Busy p σ clear) named t) (unless o named c)
      found o f = names_row f (λ u l. tt) d

      go : (met : Option (ℕ × ℕ)) → Meets p σ clear met → Decides Answer (Told p σ) (names (Busy p σ clear) named t) (unless_train met (λ u train. Refused (Occupied u train)) c)
      go (Some (u, train)) (such, stands) = rw (← stands) (found (Some u) (record { at = λ x e. let same : u ≡ x = cc in rw (← same) such; nothing = λ e. never (cc) }))
      go None none = found None (record { at = λ x e. never (cc); nothing = λ e. none })

  module _ (W : WellFormed p σ) where
    abbrev Answers : Event → Type 0
    Answers event = Decides Answer (Told p σ) (event_table p σ event) (decided p σ event)

    route_there : (r : ℕ) → Is (ltb r (length p.routes)) ↔ (r < length p.routes)
    route_there r = (ltb-true r (length p.routes), lt-ltb r (length p.routes))

    request_rows : (r : ℕ) → Answers (Request r)
    unfolding event_table request_table decided answer_request held_point derailed_point refusal_number
    request_rows r =
        needs_row (route_there r) (λ n. tt) λ known.
        needs_row (red_tests σ (route_of p r).start) (λ n. tt) λ is_red.
        train_row (route_of p r).clear (clear_below p R r known) λ clear.
        names_row (searches (held_tells p σ r (length p.tracks) (listed_below p R r known))) (λ q l. tt) λ idle.
        names_row (searches (derails_tells p σ r (length p.tracks) (listed_below p R r known))) (λ q l. (r, known, clear, l.such)) λ calm.
        last_row (record { formed = W; known = known; clear = clear; idle = idle })

    cancel_rows : (r : ℕ) → Answers (Cancel r)
    unfolding event_table cancel_table decided answer_cancel refusal_number
    cancel_rows r =
        needs_row (route_there r) (λ n. tt) λ known.
        needs_row (green_tests σ (route_of p r).start r) (λ n. tt) λ green.
        asks_row (train_tests σ (home_of p (route_of p r).start)) (λ t. tt) λ free.
        last_row (record { formed = W; known = known; green = green })

    entry_there : (e train : ℕ) → Is (ltb e (length p.entries) && not (eqb train 0)) ↔ ((e < length p.entries) × (train ≢ no_train))
    entry_there e train = (
      λ q. (
        ltb-true e (length p.entries) (and_l (ltb e (length p.entries)) (not (eqb train 0)) q),
        eqb-false train 0 (not_t _ (and_r (ltb e (length p.entries)) (not (eqb train 0)) q)),
      ),
      λ k. and_i _ _ (lt-ltb e (length p.entries) k.0) (not_i _ (ne_eqb train 0 k.1)),
    )

    enter_rows : (e train : ℕ) → Answers (Enter e train)
    unfolding event_table enter_table decided answer_enter refusal_number
    enter_rows e train =
        needs_row (entry_there e train) (λ n. tt) λ known.
        asks_row (in_tests p σ W train known.1) (λ i. tt) λ new.
        train_row (entry_of p e).clear (entry_clear_below p R e known.0) λ clear.
        let entry : Entry p σ train (entry_of p e).track =
        record { formed = W; e = e; known = known.0; numbered = known.1; track = refl; new = new; clear = clear } in
        asks_row (train_tests σ (entry_of p e).track) (λ t. inl (train, entry, t)) λ free.
        last_row (record { entry = entry; free = free })

    -- a train stands on one track, and goes to one; one signal stands at a track
    one_front : (train : ℕ) → train ≢ no_train → (u v : ℕ) → FrontAt p σ train u → FrontAt p σ train v → u ≡ v
    one_front train k u v e f = W.once u v (λ z. k (sym e ∙ z)) (e ∙ sym f)

    the_front : (train : ℕ) → train ≢ no_train → Finds (front_of p σ.trains train) (FrontAt p σ train)
    unfolding front_of
    the_front train k = searches (front_tells p σ W train k)

    the_red : (u : ℕ) → Finds (red_at p σ.signals u) (RedAt p σ u)
    the_red u = record {
      at = λ s e. let r = red_at_lem p σ R u e in record { such = r; no_lower = λ t h q. let z = one_signal p R u t s q.0 r.0 in omega arith };
      nothing = red_none p σ R u;
    }

    move_rows : (train : ℕ) → Answers (Move train)
    unfolding event_table move_table decided answer_move move_from move_to refusal_number
    move_rows train =
        needs_not_row (eqb-false train 0, ne_eqb train 0) (λ n. tt) λ numbered.
        found_row (the_front train numbered) (one_front train numbered) (λ n. tt) λ u at.
        names_row (the_red u) (λ s l. tt) λ not_red.
        let front : Front p σ train u = record { formed = W; numbered = numbered; at = at; not_red = not_red } in
        asks_row (exit_is (track_of p u)) (λ x. front) λ onward.
        let v : ℕ = way_out p σ.lies u in
        the_row v (next_way p σ W u) (λ m s. sym (way_next p σ u m s))
        (let step : Step p σ train u v = record { front = front; onward = onward; next = next_way p σ W u } in
        asks_row (train_tests σ v) (λ t. inr (train, u, step, t)) λ free.
        asks_row (through_tests p σ W u v) (λ t. (train, u, step, t)) λ fits.
        last_row (record { step = step; free = free }))

    event_rows : (event : Event) → Answers event
    unfolding event_table decided refusal_number
    event_rows (Request r) = request_rows r
    event_rows (Cancel r) = cancel_rows r
    event_rows (Enter e train) = enter_rows e train
    event_rows (Move train) = move_rows train
    event_rows Unknown = last_row tt

  -- 10
  rows : (event : Event) → Decides Answer (Told p σ) (table_of p σ event) (answer p σ event)
  unfolding table_of answer refusal_number
  rows event = needs_row (formed p σ, passes p σ) (λ n. n) (λ W. event_rows W event)

  -- the answer is given; what is given is the answer, the only one, and tells what its rows let pass
  pub given : (event : Event) → Given p σ event (answer p σ event)
  given event = record { row = (rows event).sole.given }

  pub answers : {event : Event} {a : Answer} → Given p σ event a → answer p σ event ≡ a
  answers {event} {a} g = sym ((rows event).sole.only a g.row)

  pub one_given : {event : Event} {a b : Answer} → Given p σ event a → Given p σ event b → a ≡ b
  one_given {event} g h = gives_one (rows event) g.row h.row

  pub told : {event : Event} {a : Answer} → Given p σ event a → Told p σ a
  told {event} g = subst (Told p σ) (answers g) (rows event).sole.told

  -- given exactly when
  pub exactly : (event : Event) (a : Answer) → (answer p σ event ≡ a) ↔ Given p σ event a
  exactly event a = (λ q. subst (λ a. Given p σ event a) q (given event), answers)
