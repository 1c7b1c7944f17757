-- Each answer keeps the invariant: a grant takes a way that is free, and turns no point that is held; a cancel has no train on its way; an entry is where
-- nothing leads to; a train that leaves takes nothing; a train that moves keeps to its way, which nobody else has ahead.
use mathlib.Core.Path.{◌≡◌, sym, ap, ◌∙◌, subst}
use mathlib.Core.Bool.{Bool, true, false}
use mathlib.Core.Logic.{◌≢◌, inl, inr}
use Prim.Native.Nat.{ℕ, zero, suc, ◌<◌, ◌≤◌}
use native.Mathlib.Omega.{arith}
use lib.ListN.{length}
use Rattle.laws.specs.Tests.{same?, below?}
use Rattle.laws.specs.Lists.{In}
use Rattle.laws.specs.Answers.{NoSuch}
use Rattle.plan.specs.Records.{Plan, route_of, entry_of}
use Rattle.plan.specs.Layout.{Home}
use Rattle.plan.specs.Routes.{points_of, Listed, Releases, path_length, track_at}
use Rattle.plan.specs.File.{Readable}
use Rattle.rules.specs.Verdict.{Sound}
use Rattle.rules.proofs.Numbered.{twelve}
use Rattle.state.specs.declared.State.{State}
use Rattle.state.specs.State.{no_train, green_for, train_at, lie_at, shown_at, HasTrain, Holds, WellFormed}
use Rattle.events.specs.declared.Answer.{Answer}
use Rattle.events.specs.declared.Deed.TheVariants.{Granted, Cancelled, Entered, Moved, Left}
use Rattle.events.specs.declared.Answer.TheVariants.{Refused, Accident, Done}
use Rattle.events.specs.Meaning.{Busy, HeldOther, SignalGreen, AfterGrant, AfterCancel, AfterEntry, AfterMove, AfterLeaving, Follows}
use Rattle.events.proofs.Told.{Told}
use Rattle.events.proofs.Kept.{stood}
use Rattle.events.proofs.Facts.{start_below}
use Rattle.events.proofs.Follow.{green_red, grant_holds, grant_keeps, grant_still, grant_green, cancel_holds, cancel_signal, move_from_lem, move_empty, move_holds, move_signal, leave_trains, leave_signal}
use Rattle.demands.proofs.Cases.{lie_of}
use Rattle.demands.proofs.Facts.{at_home, path_clear_lem, release_on}
use Rattle.demands.proofs.Invariant.{Ahead, Mobile, Place, Way, Invariant, sole}
use Rattle.demands.proofs.Accidents.{way}

-- What is ahead stays so where no train comes onto it and no hold is dropped but by a release that comes first.
ahead_kept : {p : Plan} {σ τ : State} {q n : ℕ} → Ahead p σ q n
    → ((k : ℕ) → n < suc k → k < path_length p q → train_at σ (track_at p q (suc k)) ≡ no_train → train_at τ (track_at p q (suc k)) ≡ no_train)
    → ((x : ℕ) → Listed p q x → ((j : ℕ) → j ≤ n → Releases p q (track_at p q j) x → ⊥) → Holds σ q x → Holds τ q x) → Ahead p τ q n
ahead_kept {p} {σ} {τ} {q} {n} a free holds = record {
  known = a.known;
  within = a.within;
  empty = go;
  keeps = λ x l kept. holds x l kept (a.keeps x l kept);
}
  where
    go : (j : ℕ) → n < j → j ≤ path_length p q → train_at τ (track_at p q j) ≡ no_train
    go zero h k = absurd (omega arith)
    go (suc j) h k = free j h k (a.empty (suc j) h k)

place_kept : {p : Plan} {σ τ : State} {u : ℕ} (pl : Place p σ u) → Ahead p τ pl.r pl.i → Place p τ u
place_kept pl a = record { r = pl.r; i = pl.i; at = pl.at; ahead = a }

module _ (p : Plan) (reads : Readable p) (sound : Sound p) (σ : State) (inv : Invariant p σ) (τ : State) where
  -- A request granted: its own way was found free and is held now; nothing else changes for the others.
  module _ (r : ℕ) (known : r < length p.routes) (clear : NoSuch (Busy p σ (route_of p r).clear)) (idle : NoSuch (HeldOther p σ r)) (g : AfterGrant p σ τ r) where
    grant_ahead : {q n : ℕ} → Ahead p σ q n → Ahead p τ q n
    grant_ahead {q} a = ahead_kept a (λ k h l z. g.trains _ ∙ z) (λ x l kept h. grant_keeps g q x h)

    granted_ahead : Ahead p τ r 0
    granted_ahead = record { known = known; within = omega arith; empty = free; keeps = λ x l kept. g.holds x l }
      where
        free : (j : ℕ) → 0 < j → j ≤ path_length p r → train_at τ (track_at p r j) ≡ no_train
        free zero h k = absurd (omega arith)
        free (suc j) h k = g.trains _ ∙ (elim (same? (train_at σ (track_at p r (suc j))) no_train) [
          | inl e ↦ e
          | inr e ↦ absurd (clear (track_at p r (suc j)) (path_clear_lem p reads sound r known j k, e))
        ])

    granted_lie : (x : ℕ) (lie : Bool) → In x (points_of p r lie) → lie_at τ x ≡ lie_of lie
    unfolding points_of
    granted_lie x false w = g.normal x w (λ v. ((twelve sound).rule9 r known).apart x w v)
    granted_lie x true w = g.reverse x w

    grant_lies : (q x : ℕ) (lie : Bool) → Holds τ q x → In x (points_of p q lie) → lie_at τ x ≡ lie_of lie
    grant_lies q x lie h w = elim (grant_holds g q x h) [
      | inl z ↦ granted_lie x lie (rw z.0 at w)
      | inr z ↦ grant_still g x (λ o. idle x ((q, z.1), o)) ∙ inv.lies q x lie z.1 w
    ]

    pub grant_kept : Invariant p τ
    grant_kept = record {
      lies = grant_lies;
      green = λ q e. elim (grant_green g (route_of p q).start q e) [
        | inl z ↦ rw z.1 granted_ahead
        | inr z ↦ grant_ahead (inv.green q z.1)
      ];
      away = λ u t n. let pl = inv.away u (λ z. t (g.trains u ∙ z)) n in place_kept pl (grant_ahead pl.ahead);
    }

  -- Cancelled: no train is on the route's way, since it is free ahead of the signal.
  module _ (r : ℕ) (on : SignalGreen p σ r) (c : AfterCancel p σ τ r) where
    cancel_ahead : {q n : ℕ} → q ≢ r → Ahead p σ q n → Ahead p τ q n
    cancel_ahead {q} d a = ahead_kept a (λ k h l z. c.trains _ ∙ z) (λ x l kept h. c.other_holds q x d ∙ h)

    not_there : (u : ℕ) → HasTrain σ u → (Home p u → ⊥) → (i : ℕ) → track_at p r i ≡ u → i ≤ path_length p r → ⊥
    not_there u t n zero e h =
        let known = (inv.green r on).known in n ((route_of p r).start, start_below p reads r known, sym (at_home p r) ∙ e)
    not_there u t n (suc i) e h = t (sym (ap (train_at σ) e) ∙ (inv.green r on).empty (suc i) (omega arith) h)

    pub cancel_kept : Invariant p τ
    cancel_kept = record {
      lies = λ q x lie h w. c.lies x ∙ inv.lies q x lie (cancel_holds c q x h).1 w;
      green = λ q e. elim (cancel_signal c (route_of p q).start) [
        | inl z ↦ green_red _ q e z
        | inr z ↦ cancel_ahead (λ y. z.0 (ap (λ k. (route_of p k).start) y)) (inv.green q (sym z.1 ∙ e))
      ];
      away = away;
    }
      where
        away : (u : ℕ) → Mobile τ u → (Home p u → ⊥) → Place p τ u
        away u t n =
            let s : HasTrain σ u = λ z. t (c.trains u ∙ z) in
            let pl = inv.away u s n in
            let d : pl.r ≢ r = λ e. not_there u s n pl.i (rw e at pl.at) (rw e at pl.ahead.within) in
            place_kept pl (cancel_ahead d pl.ahead)

  -- Entered: an entry track is a home, and nothing leads to it.
  module _ (train e : ℕ) (known : e < length p.entries) (f : AfterEntry σ τ train (entry_of p e).track) where
    enter_ahead : {q n : ℕ} → Ahead p σ q n → Ahead p τ q n
    enter_ahead {q} a = ahead_kept a
        (λ k h l z. f.other_trains _ (λ y. ((twelve sound).rule5 e known).nothing (track_at p q k) (rw y at (((twelve sound).rule6 q a.known).lead k l))) ∙ z)
        (λ x l kept h. f.holds q x ∙ h)

    pub enter_kept : Invariant p τ
    enter_kept = record {
      lies = λ q x lie h w. f.lies x ∙ inv.lies q x lie (sym (f.holds q x) ∙ h) w;
      green = λ q g. enter_ahead (inv.green q (sym (f.signals (route_of p q).start) ∙ g));
      away = λ u t n.
          let d : u ≢ (entry_of p e).track = λ y. n (rw y ((twelve sound).rule5 e known).home) in
          let pl = inv.away u (λ z. t (f.other_trains u d ∙ z)) n in
          place_kept pl (enter_ahead pl.ahead);
    }

  -- Left: a train less.
  module _ (u : ℕ) (f : AfterLeaving p σ τ u) where
    leave_ahead : {q n : ℕ} → Ahead p σ q n → Ahead p τ q n
    leave_ahead {q} a = ahead_kept a (λ k h l z. elim (leave_trains f (track_at p q (suc k))) [ inl y ↦ y | inr y ↦ y ∙ z ]) (λ x l kept h. f.holds q x ∙ h)

    pub leave_kept : Invariant p τ
    leave_kept = record {
      lies = λ q x lie h w. f.lies x ∙ inv.lies q x lie (sym (f.holds q x) ∙ h) w;
      green = λ q g. elim (leave_signal f (route_of p q).start) [ inl z ↦ green_red _ q g z | inr z ↦ leave_ahead (inv.green q (sym z ∙ g)) ];
      away = λ x t n. elim (leave_trains f x) [
        | inl z ↦ absurd (t z)
        | inr z ↦ (let pl = inv.away x (λ y. t (z ∙ y)) n in place_kept pl (leave_ahead pl.ahead))
      ];
    }

  -- Moved: the train goes on along its way, and nobody else has the track entered ahead.
  module _ (train u v : ℕ) (stood : HasTrain σ u) (on : Way p σ u v) (m : AfterMove p σ τ train u v) where
    apart : (q n : ℕ) → Ahead p σ q n → track_at p q n ≢ u → (k : ℕ) → n < suc k → k < path_length p q → track_at p q (suc k) ≢ v
    apart q n a d k h l e =
        let b = sole p reads sound σ inv on q n k a (omega arith) l e in
        elim (same? n k) [
          | inl z ↦ d (ap (track_at p q) z ∙ b)
          | inr z ↦ stood (sym (ap (train_at σ) b) ∙ a.empty k (omega arith) (omega arith))
        ]

    move_ahead : {q n : ℕ} → track_at p q n ≢ u → Ahead p σ q n → Ahead p τ q n
    move_ahead {q} {n} d a = ahead_kept a
        (λ k h l z. move_empty m (track_at p q (suc k)) (apart q n a d k h l) z)
        (λ x l kept h. m.other_holds q x (unreleased x kept) ∙ h)
      where
        unreleased : (x : ℕ) → ((j : ℕ) → j ≤ n → Releases p q (track_at p q j) x → ⊥) → Releases p q v x → ⊥
        unreleased x kept f =
            let (k, l, e) = release_on p reads sound q a.known v x f in
            elim (below? n (suc k)) [
              | inl h ↦ apart q n a d k h l e
              | inr h ↦ kept (suc k) h (rw e f)
            ]

    moved_ahead : Ahead p τ on.r (suc on.i)
    moved_ahead = record {
      known = on.ahead.known;
      within = on.more;
      empty = λ j h l. move_empty m _
          (λ e. ((twelve sound).rule6 on.r on.ahead.known).apart (suc on.i) j h l (on.to ∙ sym e)) (on.ahead.empty j (omega arith) l);
      keeps = λ x l kept. m.other_holds on.r x (λ f. kept (suc on.i) (omega arith) (rw on.to f)) ∙ on.ahead.keeps x l (λ j h. kept j (omega arith));
    }

    pub move_kept : Invariant p τ
    move_kept = record { lies = λ q x lie h w. m.lies x ∙ inv.lies q x lie (move_holds m q x h).1 w; green = green; away = away }
      where
        green : (q : ℕ) → shown_at τ (route_of p q).start ≡ green_for q → Ahead p τ q 0
        green q g = elim (move_signal m (route_of p q).start) [
          | inl z ↦ green_red _ q g z
          | inr z ↦ (let a = inv.green q (sym z.1 ∙ g) in
              move_ahead (λ e. z.0 (start_below p reads q a.known, sym (at_home p q) ∙ e)) a)
        ]

        away : (x : ℕ) → Mobile τ x → (Home p x → ⊥) → Place p τ x
        away x t n = elim (same? x v) [
          | inl e ↦ record { r = on.r; i = suc on.i; at = on.to ∙ sym e; ahead = moved_ahead }
          | inr e ↦ (let (d, same) = move_from_lem m x t e in
              let pl = inv.away x (λ z. t (same ∙ z)) n in
              place_kept pl (move_ahead (λ z. d (sym pl.at ∙ z)) pl.ahead))
        ]

-- A step.
pub keeps : {p : Plan} {σ τ : State} → Readable p → Sound p → WellFormed p σ → Invariant p σ → (a : Answer) → Told p σ a → Follows p σ τ a → Invariant p τ
keeps reads sound formed inv (Refused refusal) t f = rw f inv
keeps reads sound formed inv (Accident harm) t f = rw f inv
keeps {p} {σ} {τ} reads sound formed inv (Done (Granted r)) t f = grant_kept p reads sound σ inv τ r t.known t.clear t.idle f
keeps {p} {σ} {τ} reads sound formed inv (Done (Cancelled r)) t f = cancel_kept p reads sound σ inv τ r t.green f
keeps {p} {σ} {τ} reads sound formed inv (Done (Entered train u)) t f =
    enter_kept p reads sound σ inv τ train t.entry.e t.entry.known (subst (AfterEntry σ τ train) (sym t.entry.track) f)
keeps {p} {σ} {τ} reads sound formed inv (Done (Moved train u v)) t f =
    move_kept p reads sound σ inv τ train u v (stood p reads σ t.step.front) (way p reads sound σ inv formed t.step) f
keeps {p} {σ} {τ} reads sound formed inv (Done (Left train u)) t f = leave_kept p reads sound σ inv τ u f
