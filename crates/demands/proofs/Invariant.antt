-- The invariant: what is ahead of a green signal and of a train on its way is free of trains, and its points are held and lie as they are listed.
-- From it: a train on its way goes along its route, and nobody else comes into what lies ahead of it.
use mathlib.Core.Path.{◌≡◌, sym, ap, ◌∙◌}
use mathlib.Core.Bool.{Bool}
use mathlib.Core.Logic.{inl, inr}
use Prim.Native.Nat.{ℕ, zero, suc, ◌<◌, ◌≤◌}
use native.Mathlib.Omega.{arith}
use lib.ListN.{length}
use Rattle.laws.specs.Lists.{In}
use Rattle.plan.specs.Kinds.{out, leg, Forks, Legged}
use Rattle.plan.specs.Records.{Plan, route_of, track_of}
use Rattle.plan.specs.Layout.{Home}
use Rattle.plan.specs.Routes.{points_of, Listed, Releases, path_length, track_at}
use Rattle.plan.specs.File.{Readable}
use Rattle.plan.proofs.Says.{straight, lists}
use Rattle.rules.specs.Verdict.{Sound}
use Rattle.rules.proofs.Numbered.{twelve}
use Rattle.state.specs.declared.State.{State}
use Rattle.state.specs.State.{no_train, green_for, train_at, lie_at, shown_at, HasTrain, Holds, fresh}
use Rattle.events.specs.Meaning.{Next}
use Rattle.events.proofs.Facts.{start_below}
use Rattle.events.proofs.Cases.{Either}
use Rattle.events.proofs.Follow.{green_red}
use Rattle.events.proofs.Kept.{no_train_lem, no_hold, all_red}
use Rattle.demands.proofs.Cases.{forks?, legged?, lie_of, same_lie, next_lie}
use Rattle.demands.proofs.Facts.{at_home, track_in_lem, one_before, home_straight, release_on, release_later}

-- Route r from its place i on: no train further on, and every listed point held that has not been given back up to here.
pub record Ahead (p : Plan) (σ : State) (r i : ℕ) : Type 0 where
  pub known : r < length p.routes
  pub within : i ≤ path_length p r
  pub empty : (j : ℕ) → i < j → j ≤ path_length p r → train_at σ (track_at p r j) ≡ no_train
  pub keeps : (x : ℕ) → Listed p r x → ((j : ℕ) → j ≤ i → Releases p r (track_at p r j) x → ⊥) → Holds σ r x

-- a train that may move stands on the track
abbrev pub Mobile : State → ℕ → Type 0
Mobile σ u = HasTrain σ u

-- a train on u follows route r, at its place i
pub record Place (p : Plan) (σ : State) (u : ℕ) : Type 0 where
  pub r : ℕ
  pub i : ℕ
  pub at : track_at p r i ≡ u
  pub ahead : Ahead p σ r i

pub record Invariant (p : Plan) (σ : State) : Type 0 where
  -- a point that a route lists and holds lies as listed
  pub lies : (r x : ℕ) (lie : Bool) → Holds σ r x → In x (points_of p r lie) → lie_at σ x ≡ lie_of lie
  -- a signal that is green for a route has it free ahead
  pub green : (r : ℕ) → shown_at σ (route_of p r).start ≡ green_for r → Ahead p σ r 0
  -- a train on a track that is no home is on its way
  pub away : (u : ℕ) → Mobile σ u → (Home p u → ⊥) → Place p σ u

-- a train on u follows a route that goes on to v
pub record Way (p : Plan) (σ : State) (u v : ℕ) : Type 0 where
  pub r : ℕ
  pub i : ℕ
  pub from : track_at p r i ≡ u
  pub to : track_at p r (suc i) ≡ v
  pub more : i < path_length p r
  pub ahead : Ahead p σ r i

pub fresh_invariant : (p : Plan) → Invariant p fresh
fresh_invariant p = record {
  lies = λ r x lie h w. absurd (no_hold r x h);
  green = λ r g. green_red _ r g (all_red (route_of p r).start);
  away = λ u t n. absurd (t (no_train_lem u));
}

module _ (p : Plan) (reads : Readable p) (sound : Sound p) (σ : State) (inv : Invariant p σ) where
  -- the home gives nothing back
  home_keeps : (r x : ℕ) → r < length p.routes → Releases p r (track_at p r 0) x → ⊥
  home_keeps r x known w =
      let (k, h, e) = release_on p reads sound r known (track_at p r 0) x w in
      ((twelve sound).rule6 r known).apart 0 (suc k) (omega arith) h (sym e)

  -- a point at the place or ahead of it lies as listed
  lies_ahead : (r i k : ℕ) (lie : Bool) → Ahead p σ r i → i ≤ suc k → k < path_length p r → In (track_at p r (suc k)) (points_of p r lie)
      → lie_at σ (track_at p r (suc k)) ≡ lie_of lie
  lies_ahead r i k lie a hi hk w = inv.lies r (track_at p r (suc k)) lie (a.keeps (track_at p r (suc k)) (lists p r (track_at p r (suc k)) lie w) kept) w
    where
      kept : (j : ℕ) → j ≤ i → Releases p r (track_at p r j) (track_at p r (suc k)) → ⊥
      kept zero hj f = home_keeps r (track_at p r (suc k)) a.known f
      kept (suc j) hj f = let z = release_later p reads sound r a.known k j hk (let y = a.within in omega arith) f in omega arith

  -- a trailing point ahead lies for the track before it
  pub leg_ahead : (r i k : ℕ) → Ahead p σ r i → i ≤ k → k < path_length p r → Legged (track_of p (track_at p r (suc k)))
      → (lie : Bool) × (lie_at σ (track_at p r (suc k)) ≡ lie_of lie) × (leg (track_of p (track_at p r (suc k))) lie ≡ track_at p r k)
  leg_ahead r i k a hi hk t =
      let (lie, w, e) = ((twelve sound).rule9 r a.known).legs k hk t in
      (lie, lies_ahead r i k lie a (omega arith) hk w, e)

  -- a train on its way goes to the next track of its route
  pub goes_on : (r i v : ℕ) → Ahead p σ r i → i < path_length p r → Next p σ (track_at p r i) v → track_at p r (suc i) ≡ v
  goes_on r i v a hi n = let (lie, l, o) = next_lie p σ (track_at p r i) v n in go i lie a hi l o (forks? p (track_at p r i))
    where
      along : (i : ℕ) (lie : Bool) → i < path_length p r → out (track_of p (track_at p r i)) lie ≡ v → (Forks (track_of p (track_at p r i)) → ⊥) → track_at p r (suc i) ≡ v
      along i lie hi o f = let (off, (way, e)) = ((twelve sound).rule6 r a.known).lead i hi in sym e ∙ straight (track_of p (track_at p r i)) way lie f ∙ o

      go : (i : ℕ) (lie : Bool) → Ahead p σ r i → i < path_length p r → lie_at σ (track_at p r i) ≡ lie_of lie → out (track_of p (track_at p r i)) lie ≡ v
          → Either (Forks (track_of p (track_at p r i))) → track_at p r (suc i) ≡ v
      go i lie a hi l o (inr f) = along i lie hi o f
      go zero lie a hi l o (inl f) = absurd (home_straight p reads sound (route_of p r).start (start_below p reads r a.known) (rw (at_home p r) at f))
      go (suc i) lie a hi l o (inl f) =
          let (way, w, h, e) = ((twelve sound).rule9 r a.known).ways i (omega arith) f in
          let same : way ≡ lie = same_lie way lie (sym (lies_ahead r (suc i) i way a (omega arith) (omega arith) w) ∙ l) in
          sym e ∙ ap (out (track_of p (track_at p r (suc i)))) same ∙ o

  -- two routes that are free ahead into one track come from the same track before it
  one_way : (r i q n k : ℕ) → Ahead p σ r i → i < path_length p r → Ahead p σ q n → n ≤ k → k < path_length p q
      → track_at p q (suc k) ≡ track_at p r (suc i) → track_at p q k ≡ track_at p r i
  one_way r i q n k a hi b hn hk e = elim (legged? p (track_at p r (suc i))) [
    | inl t ↦ (let (lie, l, x) = leg_ahead r i i a (omega arith) hi t in
        let (way, m, y) = leg_ahead q n k b hn hk (rw e t) in
        let same : way ≡ lie = same_lie way lie (sym m ∙ ap (lie_at σ) e ∙ l) in
        sym y ∙ ap (λ v. leg (track_of p v) way) e ∙ ap (leg (track_of p (track_at p r (suc i)))) same ∙ x)
    | inr t ↦ one_before p reads sound (track_at p q k) (track_at p r i) (track_at p r (suc i)) (track_in_lem p reads r (suc i) a.known hi) t
        (rw e at (((twelve sound).rule6 q b.known).lead k hk)) (((twelve sound).rule6 r a.known).lead i hi)
  ]

  -- who is free ahead into the track that a train goes to comes from where the train is
  pub sole : {u v : ℕ} → Way p σ u v → (q n k : ℕ) → Ahead p σ q n → n ≤ k → k < path_length p q → track_at p q (suc k) ≡ v → track_at p q k ≡ u
  sole way q n k b hn hk e = one_way way.r way.i q n k way.ahead way.more b hn hk (e ∙ sym way.to) ∙ way.from
