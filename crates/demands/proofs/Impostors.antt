-- The impostors fail: on the small plan, from fresh, an unknown event must be refused and a first train must be let in; without a clear list a
-- second one must be called a collision.
use Rattle.std.specs.Prelude.{Some}
use mathlib.Core.Path.{◌≡◌, refl, sym, ap, ◌∙◌, subst}
use mathlib.Core.Logic.{◌≢◌, ◌⊎◌, inl, inr, ◌↔◌}
use mathlib.Core.List.{List, [], ◌∷◌, ◌++◌}
use Prim.Native.Nat.{ℕ, ◌+◌, ◌<◌, ◌≤◌}
use native.Mathlib.Omega.{arith}
use native.Mathlib.Nat.{not-suc-le-zero, zero-add}
use lib.ListN.{length}
use Rattle.laws.specs.Tests.{never, same?, below?}
use Rattle.laws.specs.Answers.{NoSuch, LowestSuch, Gives}
use Rattle.laws.specs.Lists.{All, In}
use Rattle.plan.specs.Records.{Plan, route_of, entry_of}
use Rattle.plan.specs.File.{Readable}
use Rattle.rules.specs.Verdict.{Sound}
use Rattle.state.specs.declared.State.{State}
use Rattle.state.specs.State.{no_train, normal_lie, reverse_lie, red, train_at, lie_at, shown_at, HasTrain, Holds, WellFormed, fresh}
use Rattle.events.specs.declared.Event.{Event}
use Rattle.events.specs.declared.Event.TheVariants.{Request, Cancel, Enter, Move, Unknown}
use Rattle.events.specs.declared.Refusal.TheVariants.{IllFormed, BadEvent}
use Rattle.events.specs.declared.Harm.{Harm}
use Rattle.events.specs.declared.Harm.TheVariants.{Collision}
use Rattle.events.specs.declared.Answer.{Answer}
use Rattle.events.specs.declared.Deed.TheVariants.{Entered}
use Rattle.events.specs.declared.Answer.TheVariants.{Refused, Accident, Done}
use Rattle.events.specs.Answers.{deed_comes, deed_leaves}
use Rattle.events.specs.Meaning.{clear_for, InPlan, SignalRed, Busy, Meets, enter_table, event_table, table_of, Given, AfterGrant, AfterEntry, Follows}
use Rattle.events.proofs.Told.{Told}
use Rattle.events.proofs.Given.{one_given as one-given-in, told}
use Rattle.events.proofs.Kept.{stays, fresh_formed, no_train_lem}
use Rattle.demands.specs.Demands.{Box, Demand2, history, reached, once_at, comes, goes, total, shown, ListedAsItLies, Safe, Demand3, HeldTurned}
use Rattle.demands.specs.Impostors.{hasty, DifferAt, hushed, hush, AllEnter, AllLeave, AllMove, InventsAt, Impostors}
use Rattle.demands.proofs.Invariant.{Invariant}
use Rattle.demands.proofs.Accidents.{no_accident}
use Rattle.demands.proofs.Counting.{once_same, once_other, total_last}
use Rattle.demands.proofs.Once.{no_choice}
use Rattle.demands.proofs.History.{all_but}
use Rattle.demands.proofs.Demand3.{obeys_safe, reached_append, history_append}
use Rattle.demands.proofs.Verdicts.{judged_once, read_once}
use Rattle.demands.proofs.Small.{small, bare_reads, sound_reads, small_sound}
use Rattle.demands.proofs.Writing.{one_writing, refuses_all, writes_past}

-- What a box must answer on the small plan without a clear list.

abbrev bare : Plan
bare = small []

abbrev track : ℕ
track = (entry_of bare 0).track

known : (train : ℕ) → train ≢ no_train → (0 < length bare.entries) × (train ≢ no_train)
unfolding small
known train t = (omega arith, t)

no_clear : (σ : State) → NoSuch (Busy bare σ (entry_of bare 0).clear)
unfolding small entry_of
no_clear σ u b = not-suc-le-zero b.0.1

-- what 13 names is met on the event's clear list
stranger : (p : Plan) (σ : State) (event : Event) {u train : ℕ} → Meets p σ (clear_for p event) (Some (u, train))
    → (train_at σ u ≢ train) ⊎ (In u (clear_for p event) → ⊥) ⊎ (HasTrain σ u → ⊥) ⊎ ((v : ℕ) × (v < u) × In v (clear_for p event) × HasTrain σ v) → ⊥
stranger p σ event (lowest, stands) (inl n) = n stands
stranger p σ event (lowest, stands) (inr (inl n)) = n lowest.such.0
stranger p σ event (lowest, stands) (inr (inr (inl n))) = n lowest.such.1
stranger p σ event (lowest, stands) (inr (inr (inr (v, h, listed, busy)))) = lowest.no_lower v h (listed, busy)

-- and a cancel, a move and what is no event look at none
elsewhere : (p : Plan) (σ : State) (event : Event) (n : ℕ) {u train : ℕ} → (event ≡ Cancel n) ⊎ (event ≡ Move n) ⊎ (event ≡ Unknown)
    → Meets p σ (clear_for p event) (Some (u, train)) → ⊥
elsewhere p σ (Request r) n (inl e) (lowest, stands) = never (cc)
elsewhere p σ (Request r) n (inr (inl e)) (lowest, stands) = never (cc)
elsewhere p σ (Request r) n (inr (inr e)) (lowest, stands) = never (cc)
elsewhere p σ (Enter i other) n (inl e) (lowest, stands) = never (cc)
elsewhere p σ (Enter i other) n (inr (inl e)) (lowest, stands) = never (cc)
elsewhere p σ (Enter i other) n (inr (inr e)) (lowest, stands) = never (cc)
elsewhere p σ (Cancel r) n off (lowest, stands) = not-suc-le-zero lowest.such.0.1
elsewhere p σ (Move other) n off (lowest, stands) = not-suc-le-zero lowest.such.0.1
elsewhere p σ Unknown n off (lowest, stands) = not-suc-le-zero lowest.such.0.1

-- what 14 names is held, and the grant would turn it, and no lower one; and it comes past 12 and 13
module _ (p : Plan) (σ : State) (r q : ℕ) where
  abbrev HeldFor : Type 0
  HeldFor =
      WellFormed p σ
      × ((k : ℕ) × (Request r ≡ Request k) × (k < length p.routes) × SignalRed p σ k × NoSuch (Busy p σ (route_of p k).clear) × ((τ : State) × AfterGrant p σ τ k × LowestSuch (HeldTurned σ τ) q))

  stiff : HeldFor
      → ((k : ℕ) → Holds σ k q → ⊥) ⊎ ((τ : State) → AfterGrant p σ τ r → (lie_at τ q ≡ lie_at σ q) ⊎ ((x k : ℕ) × (x < q) × Holds σ k x × (lie_at τ x ≢ lie_at σ x))) → ⊥
  stiff (formed, (k, e, known, red, free, (τ, g, lowest))) (inl none) = none lowest.such.0.0 lowest.such.0.1
  stiff (formed, (k, e, known, red, free, (τ, g, lowest))) (inr wrong) =
      let same : k ≡ r = cc in
      elim (wrong τ (subst (AfterGrant p σ τ) same g)) [ inl lies ↦ lowest.such.1 lies | inr (x, j, h, held, turned) ↦ lowest.no_lower x h ((j, held), turned) ]

  rash : HeldFor
      → (WellFormed p σ → ⊥) ⊎ (length p.routes ≤ r) ⊎ (shown_at σ (route_of p r).start ≢ red) ⊎ ((u : ℕ) × In u (route_of p r).clear × HasTrain σ u) → ⊥
  rash (formed, (k, e, known, red, free, rest)) (inl n) = n formed
  rash (formed, (k, e, known, red, free, rest)) (inr (inl n)) = let same : k ≡ r = cc in absurd (omega (arith, known, same, n))
  rash (formed, (k, e, known, red, free, rest)) (inr (inr (inl n))) = let same : k ≡ r = cc in n (subst (λ i. SignalRed p σ i) same red)
  rash (formed, (k, e, known, red, free, rest)) (inr (inr (inr (u, w, t)))) = let same : k ≡ r = cc in subst (λ i. NoSuch (Busy p σ (route_of p i).clear)) same free u (w, t)

-- a hold after a grant that was not there, or is gone
robbed : {Before After Own Listed : Type 0} → After ↔ (Before ⊎ (Own × Listed)) → (Before × (After → ⊥)) ⊎ (Own × Listed × (After → ⊥)) ⊎ ((Before → ⊥) × ((Own → ⊥) ⊎ (Listed → ⊥)) × After) → ⊥
robbed held (inl (h, n)) = n (held.1 (inl h))
robbed held (inr (inl (own, l, n))) = n (held.1 (inr (own, l)))
robbed held (inr (inr (new, inl n, h))) = elim (held.0 h) [ inl b ↦ new b | inr w ↦ n w.0 ]
robbed held (inr (inr (new, inr n, h))) = elim (held.0 h) [ inl b ↦ new b | inr w ↦ n w.1 ]

-- a holder that doesn't list the point in the lie that it has
swung : (p : Plan) (σ : State) (r x : ℕ) → ListedAsItLies p σ r x
    → ((lie_at σ x ≡ normal_lie) × (In x (route_of p r).normal → ⊥)) ⊎ ((lie_at σ x ≡ reverse_lie) × (In x (route_of p r).reverse → ⊥)) → ⊥
swung p σ r x (inl (e, w)) (inl (d, n)) = n w
swung p σ r x (inl (e, w)) (inr (d, n)) = absurd (omega arith)
swung p σ r x (inr (e, w)) (inl (d, n)) = absurd (omega arith)
swung p σ r x (inr (e, w)) (inr (d, n)) = n w

must_refuse : Given bare fresh Unknown (Refused BadEvent)
unfolding Gives table_of event_table
must_refuse = record { row = inr (fresh_formed bare bare_reads, refl) }

-- a train that is not in the plan, at a free entry; at an entry that is taken
module _ (σ : State) (formed : WellFormed bare σ) (train : ℕ) (t : train ≢ no_train) (new : InPlan bare σ train → ⊥) where
  must_enter : (HasTrain σ track → ⊥) → Given bare σ (Enter 0 train) (Done (Entered train track))
  unfolding Gives table_of event_table enter_table
  must_enter free = record { row = inr (formed, inr (known train t, inr (new, inr (no_clear σ, inr (free, refl))))) }

  must_collide : HasTrain σ track → Given bare σ (Enter 0 train) (Accident (Collision track))
  unfolding Gives table_of event_table enter_table
  must_collide taken = record { row = inr (formed, inr (known train t, inr (new, inr (no_clear σ, inl (taken, refl))))) }

-- the table gives one answer
one_given : {σ : State} {event : Event} {a b : Answer} → Given bare σ event a → Given bare σ event b → a ≡ b
one_given {σ} x y = one-given-in bare bare_reads σ x y

-- A box that meets demand 2 lets a first train in.
module _ (box : Box) (d : Demand2 box) (train : ℕ) (t : train ≢ no_train) where
  lets_in : box.answer bare fresh (Enter 0 train) ≡ Done (Entered train track)
  lets_in = one_given (d.answers bare bare_reads fresh (Enter 0 train))
      (must_enter fresh (fresh_formed bare bare_reads) train t (λ w. t (sym w.1 ∙ no_train_lem w.0)) (λ h. h (no_train_lem track)))

  let_in : AfterEntry fresh (box.next bare fresh (Enter 0 train)) train track
  let_in = rw lets_in at (d.states bare bare_reads fresh (Enter 0 train))

  alters : box.next bare fresh (Enter 0 train) ≢ fresh
  alters e = t (sym let_in.stands ∙ ap (λ σ. train_at σ track) e ∙ no_train_lem track)

one : ◌≢◌ {A = ℕ} 1 no_train
one e = omega arith

two : ◌≢◌ {A = ℕ} 2 no_train
two e = omega arith

refuses : (box : Box) → Demand2 box → box.answer bare fresh Unknown ≡ Refused BadEvent
refuses box d = one_given (d.answers bare bare_reads fresh Unknown) must_refuse

waits : (box : Box) → Demand2 box → box.next bare fresh Unknown ≡ fresh
waits box d = rw (refuses box d) at (d.states bare bare_reads fresh Unknown)

-- A hushed box: on a sound plan there is nothing to hush; on the small plan there is.

hushed_same : (a : Answer) → ((harm : Harm) → a ≢ Accident harm) → hushed a ≡ a
hushed_same (Refused refusal) n = refl
hushed_same (Accident harm) n = absurd (n harm refl)
hushed_same (Done deed) n = refl

hushed_calm : (a : Answer) (harm : Harm) → hushed a ≢ Accident harm
hushed_calm (Refused refusal) harm e = never (cc)
hushed_calm (Accident other) harm e = never (cc)
hushed_calm (Done deed) harm e = never (cc)

hush_safe_lem : (box : Box) → Demand2 box → Demand3 (hush box)
hush_safe_lem box d p reads sound = obeys_safe p reads sound (hush box) obeys
  where
    obeys : (σ : State) (event : Event) → WellFormed p σ → Invariant p σ
        → Told p σ (hushed (box.answer p σ event)) × Follows p σ (box.next p σ event) (hushed (box.answer p σ event))
    obeys σ event w inv =
        let t = told p reads σ (d.answers p reads σ event) in
        rw (hushed_same (box.answer p σ event) (λ harm e. no_accident p reads sound σ inv w harm (subst (Told p σ) e t))) (t, d.states p reads σ event)

-- A box that meets demand 2 has let train 2 in, and is asked to let in train 1 behind it.
module _ (box : Box) (d : Demand2 box) where
  abbrev taken_by_two : State
  taken_by_two = box.next bare fresh (Enter 0 2)

  after_two : AfterEntry fresh taken_by_two 2 track
  after_two = let_in box d 2 two

  two_formed : WellFormed bare taken_by_two
  two_formed = stays fresh _ bare_reads (fresh_formed bare bare_reads) (box.answer bare fresh (Enter 0 2)) (told bare bare_reads fresh (d.answers bare bare_reads fresh (Enter 0 2))) (d.states bare bare_reads fresh (Enter 0 2))

  no_one : InPlan bare taken_by_two 1 → ⊥
  no_one (u, e) = elim (same? u track) [
    | inl q ↦ (let z : ◌≡◌ {A = ℕ} 2 1 = sym after_two.stands ∙ sym (ap (train_at taken_by_two) q) ∙ e in omega arith)
    | inr q ↦ one (sym e ∙ after_two.other_trains u q ∙ no_train_lem u)
  ]

  collides : Given bare taken_by_two (Enter 0 1) (Accident (Collision track))
  collides = must_collide taken_by_two two_formed 1 one no_one (λ z. two (sym after_two.stands ∙ z))

hush_fails_lem : (box : Box) → Demand2 box → Demand2 (hush box) → ⊥
hush_fails_lem box d h =
    hushed_calm (box.answer bare (taken_by_two box d) (Enter 0 1)) (Collision track)
    (one_given (h.answers bare bare_reads (taken_by_two box d) (Enter 0 1)) (collides box d))

-- Two boxes that meet demand 2 differ nowhere.
never_apart : (box other : Box) → Demand2 box → (p : Plan) → Readable p → (σ : State) (event : Event) → DifferAt p σ event box other → Demand2 other → ⊥
never_apart box other d p reads σ event n o = let (a, s) = no_choice box other d o p reads σ event in elim n [ inl z ↦ z a | inr z ↦ z s ]

-- Invented comings and goings, on the sound plan: it has two tracks, and each shows no train or one.

abbrev plan : Plan
plan = small (0 ∷ [])

-- three trains have come and none has gone: two of them to one track, or one to a track that there isn't
crowded : (u v w : ℕ) (shows : ℕ → ℕ) → ((x : ℕ) → once_at x (Some u) + (once_at x (Some v) + (once_at x (Some w) + 0)) ≡ shows x) → ((x : ℕ) → shows x ≤ 1) → ((x : ℕ) → shows x ≡ 1 → x < 2) → ⊥
crowded u v w shows sum most there = elim (same? u v) [
  | inl e ↦ absurd (omega (arith, sum u, most u, itself u, once_same u v e))
  | inr m ↦ (elim (same? u w) [
    | inl e ↦ absurd (omega (arith, sum u, most u, itself u, once_same u w e))
    | inr n ↦ (elim (same? v w) [
      | inl e ↦ absurd (omega (arith, sum v, most v, itself v, once_same v w e))
      | inr k ↦ absurd (omega (arith, there u (omega (arith, sum u, most u, itself u)), there v (omega (arith, sum v, most v, itself v)), there w (omega (arith, sum w, most w, itself w)), m, n, k))
    ])
  ])
]
  where
    itself : (x : ℕ) → once_at x (Some x) ≡ 1
    itself x = once_same x x refl

on_a_track : (σ : State) → WellFormed plan σ → (x : ℕ) → HasTrain σ x → x < 2
unfolding small
on_a_track σ formed x h = elim (below? x 2) [ inl l ↦ l | inr l ↦ absurd (h (formed.trains_end x l)) ]

module _ (box : Box) (d : Demand3 box) where
  comings_fail_lem : AllEnter box → ⊥
  unfolding history reached total deed_comes deed_leaves once_at
  comings_fail_lem all =
      let σ : State = box.next plan fresh Unknown in
      let τ : State = box.next plan σ Unknown in
      let ω : State = box.next plan τ Unknown in
      let safe = d plan sound_reads small_sound (Unknown ∷ Unknown ∷ Unknown ∷ []) in
      let (t, u, e) = all plan fresh Unknown in
      let (s, v, f) = all plan σ Unknown in
      let (r, w, g) = all plan τ Unknown in
      crowded u v w (shown ω)
      (λ x. rw (e, f, g) at (safe.counted x) ∙ zero-add (shown ω x))
      safe.shown_most
      (λ x h. on_a_track ω safe.whole x ((safe.shown_train x).0 h))

  goings_fail_lem : AllLeave box → ⊥
  unfolding history reached total deed_comes deed_leaves once_at
  goings_fail_lem all =
      let (t, u, e) = all plan fresh Unknown in
      absurd (omega (arith, rw e at ((d plan sound_reads small_sound (Unknown ∷ [])).counted u), once_same u u refl))

  moves_fail_lem : AllMove box → ⊥
  unfolding history reached total deed_comes deed_leaves
  moves_fail_lem all =
      let (t, u, v, n, e) = all plan fresh Unknown in
      absurd (omega (arith, rw e at ((d plan sound_reads small_sound (Unknown ∷ [])).counted u), once_same u u refl, once_other u v n))

  -- what came and went up to an event, and with it
  invented_fails_lem : (p : Plan) → Readable p → Sound p → (events : List Event) (event : Event) (u : ℕ) → InventsAt p (reached box p fresh events) event u box → ⊥
  unfolding history reached
  invented_fails_lem p reads sound events event u n =
      let σ : State = reached box p fresh events in
      let before = (d p reads sound events).counted u in
      let after : total (comes u) (history box p fresh events ++ (box.answer p σ event ∷ [])) ≡ total (goes u) (history box p fresh events ++ (box.answer p σ event ∷ [])) + shown (box.next p σ event) u
      = rw (history_append box p fresh events (event ∷ []), reached_append box p fresh events (event ∷ [])) at ((d p reads sound (events ++ (event ∷ []))).counted u) in
      n (omega (arith, before, after, total_last (comes u) (history box p fresh events) (box.answer p σ event), total_last (goes u) (history box p fresh events) (box.answer p σ event)))

  -- the answer to an event after others is the last of their history
  last_answer : (p : Plan) → Readable p → Sound p → (events : List Event) (event : Event) (ok : Answer → Type 0) → ((h : List Answer) (σ : State) → Safe p h σ → All ok h) → ok (box.answer p (reached box p fresh events) event)
  unfolding history
  last_answer p reads sound events event ok each =
      (all_but ok (history box p fresh events) _
      (rw (history_append box p fresh events (event ∷ [])) at (each (history box p fresh (events ++ (event ∷ []))) _ (d p reads sound (events ++ (event ∷ [])))))
      ).1

pub impostors : Impostors
unfolding reached
impostors = record {
  refuser_fails = λ box r d. let (refusal, e) = r bare fresh (Enter 0 1) in let i = lets_in box d 1 one in never (cc);
  stock_fails = λ answer box s d.
      let a = s bare fresh (Enter 0 1) in let b = s bare fresh Unknown in let i = lets_in box d 1 one in let j = refuses box d in never (cc);
  idle_fails = λ box i d. alters box d 1 one (i bare fresh (Enter 0 1));
  events_fail = λ box s d. let e = s bare fresh (Enter 0 1) Unknown in let i = lets_in box d 1 one in let j = refuses box d in never (cc);
  states_fail = λ box s d.
      let e = s bare fresh (taken_by_two box d) (Enter 0 1) in let i = lets_in box d 1 one in
      let j = one_given (d.answers bare bare_reads (taken_by_two box d) (Enter 0 1)) (collides box d) in never (cc);
  hasty_fails = λ box d rest p reads σ event n h. never_apart box (hasty rest box) d p reads σ event n h;
  hasty_entry = λ box d h. alters box d 1 one
      (ap (λ σ. box.next bare σ (Enter 0 1)) (sym (waits box d)) ∙ waits (hasty (λ p σ event. Enter 0 1 ∷ []) box) h);
  stray_fails = never_apart;
  hush_safe = hush_safe_lem;
  hush_fails = hush_fails_lem;
  silent_fails = λ box calm d.
      calm bare (taken_by_two box d) (Enter 0 1) (Collision track) (one_given (d.answers bare bare_reads (taken_by_two box d) (Enter 0 1)) (collides box d));
  rows_fail = judged_once;
  offsets_fail = read_once;
  comings_fail = λ box all d. comings_fail_lem box d all;
  goings_fail = λ box all d. goings_fail_lem box d all;
  moves_fail = λ box all d. moves_fail_lem box d all;
  invented_fails = λ box p reads sound events event u n d. invented_fails_lem box d p reads sound events event u n;
  harm_fails = λ box p reads sound events event harm e d. last_answer box d p reads sound events event (λ a. (other : Harm) → a ≢ Accident other) (λ h σ safe. safe.unharmed) harm e;
  ill_fails = λ box p reads sound events event e d. last_answer box d p reads sound events event (λ a. a ≢ Refused IllFormed) (λ h σ safe. safe.formed) e;
  holds_fail = λ box p reads sound events r x w d.
      let held = (d p reads sound events).held r x in elim w [ inl (h, n) ↦ n (held.0 h) | inr (s, n) ↦ n (held.1 s) ];
  swung_fails = λ box p reads sound events r x h wrong d. swung p (reached box p fresh events) r x ((d p reads sound events).agreed r x h) wrong;
  stranger_fails = λ box p reads σ event u train e wrong names. stranger p σ event (names.names p reads σ event u train e) wrong;
  elsewhere_fails = λ box p reads σ event n u train off e names. elsewhere p σ event n off (names.names p reads σ event u train e);
  mute_fails = λ box p reads σ w r h red u lowest n names. n (names.request p reads σ w r h red u (train_at σ u) (lowest, refl));
  dumb_fails = λ box p reads σ w e other h k new u lowest n names. n (names.entry p reads σ w e other h k new u (train_at σ u) (lowest, refl));
  stiff_fails = λ box p reads σ r q e wrong names. stiff p σ r q (names.names p reads σ (Request r) q e) wrong;
  rash_fails = λ box p reads σ r q e wrong names. rash p σ r q (names.names p reads σ (Request r) q e) wrong;
  astray_fails = λ box p reads σ event q off e names. let (formed, (r, is, known, red, free, rest)) = names.names p reads σ event q e in off r is;
  lax_fails = λ box p reads σ τ w r h red none g k q held turned lower n names.
      n (names.request p reads σ τ w r h red none g q (record { such = ((k, held), turned); no_lower = λ x l s. s.1 (lower s.0.0 x l s.0.1) }));
  turner_fails = λ box p reads σ r k q e h n names. n (names.still p reads σ r k q e h);
  robber_fails = λ box p reads σ event r k q e wrong own. robbed ((own p reads σ event k q).granted r e) wrong;
  clearer_fails = λ box p reads σ event r k q e wrong own. let held = (own p reads σ event k q).cancelled r e in elim wrong [
    | inl (other, h, n) ↦ n (held.1 (other, h))
    | inr (same, h) ↦ (held.0 h).0 same
  ];
  spender_fails = λ box p reads σ event train u v k q e wrong own. let held = (own p reads σ event k q).moved train u v e in elim wrong [
    | inl (other, h, n) ↦ n (held.1 (other, h))
    | inr (w, h) ↦ (held.0 h).0 w
  ];
  restless_fails = λ box p reads events r q h wrong s. s p reads events r q h wrong;
  aloof_fails = λ box p reads r σ τ w v signal clear points n agrees. n (agrees p reads r σ τ w v record {
    signal = signal;
    clear = clear;
    holds = λ k q l. (points q l).0 k;
    lies = λ q l. (points q l).1;
    trains = λ q l. (points q l).2;
  });
  miser_fails = refuses_all;
  past_fails = writes_past;
  blind_fails = λ read writer image out long none n w. n ((w.none image out long).1 none);
  tight_fails = λ read writer image out file why r e a w. never (let z = (w.whole image out file r (omega (arith, e))).0 in cc);
  spoiler_fails = λ read writer image out why long a n w. n (w.kept image out why long a);
  other_fails = λ read writer other image out d long n w o.
      let same = one_writing read writer other d w o image out long in elim n [ inl z ↦ z same.0 | inr z ↦ z same.1 ];
}
