-- What a readable and sound plan gives, in the form in which the proofs use it. With `track_at r 0` the home of route r, and its path from 1 on.
use mathlib.Core.Path.{◌≡◌, refl, sym}
use mathlib.Core.Logic.{inl, inr}
use Prim.Native.Nat.{ℕ, zero, suc, ◌<◌, ◌≤◌}
use lib.ListN.{length}
use Rattle.laws.specs.Tests.{same?}
use Rattle.laws.specs.Lists.{In}
use Rattle.plan.specs.Kinds.{Forks, Legged}
use Rattle.plan.specs.Records.{Plan, track_of, home_of, route_of}
use Rattle.plan.specs.Layout.{Leads}
use Rattle.plan.specs.Routes.{Listed, Releases, path_length, way_of, track_at}
use Rattle.plan.specs.File.{Readable}
use Rattle.plan.proofs.Says.{plain_straight}
use Rattle.rules.specs.Verdict.{Sound}
use Rattle.rules.proofs.Numbered.{twelve}
use Rattle.events.proofs.Facts.{each_in, route_read, home_below, start_below}

-- The way of a route.
module _ (p : Plan) where
  pub at_home : (r : ℕ) → track_at p r 0 ≡ home_of p (route_of p r).start
  unfolding track_at way_of
  at_home r = refl

  pub on_path : (r i : ℕ) → i < path_length p r → In (track_at p r (suc i)) (route_of p r).path
  unfolding track_at way_of
  on_path r i h = (i, h, refl)

  pub path_at_lem : (r v : ℕ) → In v (route_of p r).path → (k : ℕ) × (k < path_length p r) × (track_at p r (suc k) ≡ v)
  unfolding track_at way_of
  path_at_lem r v w = w

-- What a readable plan gives.
module _ (p : Plan) (reads : Readable p) where
  pub path_some : (r : ℕ) → r < length p.routes → 0 < path_length p r
  path_some r h = (route_read p reads r h).path.enough

  pub track_in_lem : (r i : ℕ) → r < length p.routes → i ≤ path_length p r → track_at p r i < length p.tracks
  track_in_lem r zero h k = rw (at_home p r) (home_below p reads (route_of p r).start (start_below p reads r h))
  track_in_lem r (suc i) h k = each_in (λ u. u < length p.tracks) (route_of p r).path (route_read p reads r h).path.each (track_at p r (suc i)) (on_path p r i k)

-- What a sound plan gives.
module _ (p : Plan) (reads : Readable p) (sound : Sound p) where
  -- a track that is no trailing point has one track that leads to it
  pub one_before : (u w v : ℕ) → v < length p.tracks → (Legged (track_of p v) → ⊥) → Leads p u v → Leads p w v → u ≡ w
  one_before u w v h n a b = elim (same? u w) [ inl e ↦ e | inr e ↦ absurd (n (((twelve sound).rule3 v h).two u w a b e).0) ]

  -- a home is no facing point
  pub home_straight : (s : ℕ) → s < length p.signals → Forks (track_of p (home_of p s)) → ⊥
  home_straight s h e = plain_straight (track_of p (home_of p s)) ((twelve sound).rule4 s h) e

  module _ (r : ℕ) (known : r < length p.routes) where
    -- the points that r lists are given back on its path, later than they are passed
    pub release_on : (v x : ℕ) → Releases p r v x → (k : ℕ) × (k < path_length p r) × (track_at p r (suc k) ≡ v)
    release_on v x (i, h, e, f) = path_at_lem p r v (rw e at (((twelve sound).rule11 r known).on_path i h))

    pub release_later : (i j : ℕ) → i < path_length p r → j < path_length p r → Releases p r (track_at p r (suc j)) (track_at p r (suc i)) → i < j
    release_later i j hi hj (k, h, e, f) = ((twelve sound).rule11 r known).after k i j h hi hj (sym f) (sym e)

    pub listed_clear : (x : ℕ) → Listed p r x → In x (route_of p r).clear
    listed_clear x w = (twelve sound).rule10 r known x w

    pub path_clear_lem : (i : ℕ) → i < path_length p r → In (track_at p r (suc i)) (route_of p r).clear
    path_clear_lem i h = (twelve sound).rule8 r known (track_at p r (suc i)) (on_path p r i h)
