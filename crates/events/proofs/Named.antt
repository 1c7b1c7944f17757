-- 13 is given by the test of a clear list alone, and names what that test met; and what is met there is named. So for 14, by the test of the points
-- that are held and would be turned.
use Rattle.std.specs.Prelude.{None, Option, Some}
use mathlib.Core.Path.{◌≡◌, refl, ap, ◌∙◌, subst}
use mathlib.Core.Bool.{false, not, ◌&&◌}
use mathlib.Core.Logic.{◌≢◌}
use mathlib.Core.List.{List, []}
use Prim.Native.Nat.{ℕ, ◌<◌}
use lib.ListN.{length}
use lib.Dec.{eqb, ltb}
use borrow.Author.Tests.{ne_eqb, lt-ltb, ltb-true}
use Rattle.laws.specs.Tests.{never, fails, and_l}
use Rattle.laws.specs.Lists.{In}
use Rattle.laws.specs.Answers.{NoSuch, LowestSuch}
use Rattle.laws.specs.Search.{unless, cond_ind, unless_ind}
use Rattle.plan.specs.Kinds.{exit}
use Rattle.plan.specs.Records.{Plan, home_of, route_of, entry_of, track_of}
use Rattle.plan.specs.File.{Readable}
use Rattle.state.specs.declared.State.{State}
use Rattle.state.specs.State.{no_train, train_at, well_formed, WellFormed}
use Rattle.state.proofs.Formed.{formed, passes}
use Rattle.events.specs.declared.Event.{Event}
use Rattle.events.specs.declared.Event.TheVariants.{Request, Cancel, Enter, Move, Unknown}
use Rattle.events.specs.declared.Refusal.TheVariants.{Occupied, Held, NotGreen, HomeOccupied, TrainIn, TrainOut, Red}
use Rattle.events.specs.declared.Harm.TheVariants.{Collision, RunThrough}
use Rattle.events.specs.declared.Deed.TheVariants.{Cancelled, Entered, Moved, Left}
use Rattle.events.specs.declared.Answer.{Answer}
use Rattle.events.specs.declared.Answer.TheVariants.{Refused, Accident, Done}
use Rattle.events.specs.Decide.{has_train, is_red, is_green, in_plan, way_out, runs_through, with_train, busy_train, unless_train, held_point}
use Rattle.events.specs.Decide.{answer_request, answer_cancel, answer_enter, move_to, move_from, answer_move, decided, answer}
use Rattle.events.specs.Meaning.{clear_for, Busy, Meets, HeldOther, InPlan, SignalRed}
use Rattle.events.proofs.Facts.{clear_below, listed_below, entry_clear_below}
use Rattle.events.proofs.Reflect.{search_at, at_search, red_tests, busy_tells, busy_train_tells, held_tells, in_tests}
use Rattle.events.proofs.Busy.{unless_train_ind}

-- What a cancel, an entry and a move can be answered: what is so of each of these is so of the answer.
module _ (p : Plan) (σ : State) (Q : Answer → Type 0) where
  cancel_cases : (r : ℕ) → Q (Refused NotGreen) → ((u : ℕ) → Q (Refused (HomeOccupied u))) → Q (Done (Cancelled r)) → Q (answer_cancel p σ.trains σ.signals r)
  unfolding answer_cancel
  cancel_cases r red taken done =
      cond_ind Q (is_green σ.signals (route_of p r).start r)
      (λ _. cond_ind Q (has_train σ.trains (home_of p (route_of p r).start)) (λ _. taken (home_of p (route_of p r).start)) (λ _. done))
      (λ _. red)

  enter_cases : (e train : ℕ) → Q (Refused TrainIn) → ((u other : ℕ) → Q (Refused (Occupied u other))) → ((u : ℕ) → Q (Accident (Collision u)) × Q (Done (Entered train u)))
      → Q (answer_enter p σ.trains e train)
  unfolding answer_enter
  enter_cases e train inside busy rest =
      cond_ind Q (in_plan p σ.trains train) (λ _. inside)
      (λ _. unless_train_ind Q _ _ _ (λ u other _. busy u other)
      (λ _. cond_ind Q (has_train σ.trains (entry_of p e).track) (λ _. (rest (entry_of p e).track).0) (λ _. (rest (entry_of p e).track).1)))

  move_cases : (train : ℕ) → Q (Refused TrainOut) → ((s : ℕ) → Q (Refused (Red s))) → ((v : ℕ) → Q (Accident (Collision v)) × Q (Accident (RunThrough v)))
      → ((u v : ℕ) → Q (Done (Left train u)) × Q (Done (Moved train u v))) → Q (answer_move p σ.trains σ.lies σ.signals train)
  unfolding answer_move move_from move_to
  move_cases train out red harm done =
      unless_ind Q _ _ _
      (λ u _. let v = way_out p σ.lies u in
      unless_ind Q _ _ _ (λ s _. red s)
      (λ _. cond_ind Q (exit (track_of p u)) (λ _. (done u v).0)
      (λ _. cond_ind Q (has_train σ.trains v) (λ _. (harm v).0)
      (λ _. cond_ind Q (runs_through p σ.lies u v) (λ _. (harm v).1) (λ _. (done u v).1)))))
      (λ _. out)

module _ (p : Plan) (R : Readable p) (σ : State) (u train : ℕ) where
  abbrev Named : List ℕ → Answer → Type 0
  Named clear a = a ≡ Refused (Occupied u train) → Meets p σ clear (Some (u, train))

  test_named : (clear : List ℕ) → ((x : ℕ) → In x clear → x < length p.tracks) → {rest : Answer} → Named clear rest
      → Named clear (unless_train (busy_train (length p.tracks) clear σ.trains) (λ x other. Refused (Occupied x other)) rest)
  test_named clear below k =
      unless_train_ind (Named clear) _ _ _
      (λ x other e same.
      let at : x ≡ u = cc in
      let is : other ≡ train = cc in
      let met : Meets p σ clear (Some (x, other)) = subst (Meets p σ clear) e (busy_train_tells p σ clear (length p.tracks) below) in
      rw (at, is) at met)
      (λ _. k)

  request_named : (r : ℕ) → r < length p.routes → Named (route_of p r).clear (answer_request p σ r)
  unfolding answer_request
  request_named r h =
      let Q = Named (route_of p r).clear in
      cond_ind Q (is_red σ.signals (route_of p r).start)
      (λ _. test_named (route_of p r).clear (clear_below p R r h)
      (unless_ind Q _ _ _ (λ q _ e. never (cc))
      (λ _. unless_ind Q _ _ _ (λ q _ e. never (cc))
      (λ _ e. never (cc)))))
      (λ _ e. never (cc))

  enter_named : (e other : ℕ) → e < length p.entries → Named (entry_of p e).clear (answer_enter p σ.trains e other)
  unfolding answer_enter
  enter_named e other h =
      let Q = Named (entry_of p e).clear in
      cond_ind Q (in_plan p σ.trains other) (λ _ e. never (cc))
      (λ _. test_named (entry_of p e).clear (entry_clear_below p R e h)
      (cond_ind Q (has_train σ.trains (entry_of p e).track) (λ _ e. never (cc))
      (λ _ e. never (cc))))

  cancel_named : (clear : List ℕ) (r : ℕ) → Named clear (answer_cancel p σ.trains σ.signals r)
  cancel_named clear r = cancel_cases p σ (Named clear) r (λ e. never (cc)) (λ x e. never (cc)) (λ e. never (cc))

  move_named : (clear : List ℕ) (other : ℕ) → Named clear (answer_move p σ.trains σ.lies σ.signals other)
  move_named clear other =
      move_cases p σ (Named clear) other (λ e. never (cc)) (λ s e. never (cc)) (λ x. (λ e. never (cc), λ e. never (cc))) (λ x y. (λ e. never (cc), λ e. never (cc)))

  decided_named : (event : Event) → Named (clear_for p event) (decided p σ event)
  unfolding decided
  decided_named (Request r) =
      cond_ind (Named (route_of p r).clear) (ltb r (length p.routes)) (λ e. request_named r (ltb-true r (length p.routes) e)) (λ _ e. never (cc))
  decided_named (Cancel r) = cond_ind (Named []) (ltb r (length p.routes)) (λ _. cancel_named [] r) (λ _ e. never (cc))
  decided_named (Enter e other) =
      cond_ind (Named (entry_of p e).clear) (ltb e (length p.entries) && not (eqb other 0))
      (λ h. enter_named e other (ltb-true e (length p.entries) (and_l (ltb e (length p.entries)) (not (eqb other 0)) h)))
      (λ _ e. never (cc))
  decided_named (Move other) = cond_ind (Named []) (eqb other 0) (λ _ e. never (cc)) (λ _. move_named [] other)
  decided_named Unknown = λ e. never (cc)

  pub answer_named : (event : Event) → Named (clear_for p event) (answer p σ event)
  unfolding answer
  answer_named event = cond_ind (Named (clear_for p event)) (well_formed p σ) (λ _. decided_named event) (λ _ e. never (cc))

  -- and what is met is named, where no test before 13 applies
  met_busy : (clear : List ℕ) → ((x : ℕ) → In x clear → x < length p.tracks) → Meets p σ clear (Some (u, train))
      → busy_train (length p.tracks) clear σ.trains ≡ Some (u, train)
  unfolding busy_train train_at
  met_busy clear below (lowest, stands) = ap (with_train σ.trains) (at_search (busy_tells p σ clear (length p.tracks) below) lowest) ∙ ap (λ (t : ℕ). Some (u, t)) stands

  pub request_met : WellFormed p σ → (r : ℕ) → r < length p.routes → SignalRed p σ r → Meets p σ (route_of p r).clear (Some (u, train))
      → answer p σ (Request r) ≡ Refused (Occupied u train)
  unfolding answer decided answer_request unless_train
  request_met W r h red met =
      rw (passes p σ W, lt-ltb r (length p.routes) h, (red_tests σ (route_of p r).start).1 red, met_busy (route_of p r).clear (clear_below p R r h) met)

  pub enter_met : WellFormed p σ → (e other : ℕ) → e < length p.entries → other ≢ no_train → (InPlan p σ other → ⊥) → Meets p σ (entry_of p e).clear (Some (u, train))
      → answer p σ (Enter e other) ≡ Refused (Occupied u train)
  unfolding answer decided answer_enter unless_train
  enter_met W e other h n new met =
      let out : in_plan p σ.trains other ≡ false = fails (in_plan p σ.trains other) (λ i. new ((in_tests p σ W other n).0 i)) in
      rw (passes p σ W, lt-ltb e (length p.entries) h, ne_eqb other no_train n, out, met_busy (entry_of p e).clear (entry_clear_below p R e h) met)

-- 14 is given to a request alone, for the lowest point that is held and lies otherwise than the grant would leave it; and such a point is named.
module _ (p : Plan) (R : Readable p) (σ : State) (q : ℕ) where
  abbrev pub NamedHeld : Event → Answer → Type 0
  NamedHeld event a = a ≡ Refused (Held q) → (r : ℕ) × (event ≡ Request r) × (r < length p.routes) × SignalRed p σ r × NoSuch (Busy p σ (route_of p r).clear) × LowestSuch (HeldOther p σ r) q

  request_held : (r : ℕ) → r < length p.routes → NamedHeld (Request r) (answer_request p σ r)
  unfolding answer_request held_point
  request_held r h =
      let Q = NamedHeld (Request r) in
      cond_ind Q (is_red σ.signals (route_of p r).start)
      (λ red. unless_train_ind Q _ _ _ (λ u train _ e. never (cc))
      (λ nobody. unless_ind Q _ _ _
      (λ x e same.
      let at : x ≡ q = cc in
      let free = subst (Meets p σ (route_of p r).clear) nobody (busy_train_tells p σ (route_of p r).clear (length p.tracks) (clear_below p R r h)) in
      (r, refl, h, (red_tests σ (route_of p r).start).0 red, free, subst (LowestSuch (HeldOther p σ r)) at (search_at (held_tells p σ r (length p.tracks) (listed_below p R r h)) e)))
      (λ _. unless_ind Q _ _ _ (λ x _ e. never (cc))
      (λ _ e. never (cc)))))
      (λ _ e. never (cc))

  decided_held : (event : Event) → NamedHeld event (decided p σ event)
  unfolding decided
  decided_held (Request r) = cond_ind (NamedHeld (Request r)) (ltb r (length p.routes)) (λ e. request_held r (ltb-true r (length p.routes) e)) (λ _ e. never (cc))
  decided_held (Cancel r) =
      let Q = NamedHeld (Cancel r) in
      cond_ind Q (ltb r (length p.routes)) (λ _. cancel_cases p σ Q r (λ e. never (cc)) (λ u e. never (cc)) (λ e. never (cc))) (λ _ e. never (cc))
  decided_held (Enter i train) =
      let Q = NamedHeld (Enter i train) in
      cond_ind Q (ltb i (length p.entries) && not (eqb train 0))
      (λ _. enter_cases p σ Q i train (λ e. never (cc)) (λ u other e. never (cc)) (λ u. (λ e. never (cc), λ e. never (cc))))
      (λ _ e. never (cc))
  decided_held (Move train) =
      let Q = NamedHeld (Move train) in
      cond_ind Q (eqb train 0) (λ _ e. never (cc))
      (λ _. move_cases p σ Q train (λ e. never (cc)) (λ s e. never (cc)) (λ v. (λ e. never (cc), λ e. never (cc))) (λ u v. (λ e. never (cc), λ e. never (cc))))
  decided_held Unknown = λ e. never (cc)

  pub answer_held : (event : Event) → NamedHeld event (answer p σ event)
  unfolding answer
  answer_held event = cond_ind (NamedHeld event) (well_formed p σ) (λ _. decided_held event) (λ _ e. never (cc))

  pub held_formed : (event : Event) → answer p σ event ≡ Refused (Held q) → WellFormed p σ
  unfolding answer
  held_formed event = cond_ind (λ a. a ≡ Refused (Held q) → WellFormed p σ) (well_formed p σ) (λ w _. formed p σ w) (λ _ e. never (cc))

  nobody_met : (clear : List ℕ) → ((x : ℕ) → In x clear → x < length p.tracks) → NoSuch (Busy p σ clear) → busy_train (length p.tracks) clear σ.trains ≡ None
  nobody_met clear below none = go (busy_train (length p.tracks) clear σ.trains) (busy_train_tells p σ clear (length p.tracks) below)
    where
      go : (met : Option (ℕ × ℕ)) → Meets p σ clear met → met ≡ None
      go (Some (u, train)) (lowest, stands) = absurd (none u lowest.such)
      go None n = refl

  pub request_said : WellFormed p σ → (r : ℕ) → r < length p.routes → SignalRed p σ r → NoSuch (Busy p σ (route_of p r).clear) → LowestSuch (HeldOther p σ r) q
      → answer p σ (Request r) ≡ Refused (Held q)
  unfolding answer decided answer_request unless_train held_point unless
  request_said W r h red none lowest =
      rw (
        passes p σ W,
        lt-ltb r (length p.routes) h,
        (red_tests σ (route_of p r).start).1 red,
        nobody_met (route_of p r).clear (clear_below p R r h) none,
        at_search (held_tells p σ r (length p.tracks) (listed_below p R r h)) lowest,
      )
