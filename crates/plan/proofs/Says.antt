-- What the tests of kinds, of the layout and of routes say: each test is passed exactly when its sentence is true. Assumes nothing.
use mathlib.Core.Path.{◌≡◌, refl, ap}
use mathlib.Core.Bool.{Bool, true, false, not, cond, ◌&&◌, ◌||◌}
use mathlib.Core.Logic.{◌⊎◌, inl, inr, ◌↔◌}
use mathlib.Core.List.{List}
use Prim.Native.Nat.{ℕ, ◌<◌}
use native.Mathlib.Omega.{arith}
use lib.ListN.{length, get_or, get_or-eq_default}
use lib.Dec.{eqb, ltb}
use borrow.Author.Tests.{eqb-true, eq-eqb, ltb-true, lt-ltb}
use Rattle.laws.specs.Tests.{Is, fails, clash, same?, below?, and_l, and_r, and_i, or_e, or_l, or_r, not_t, not_i}
use Rattle.laws.specs.Lists.{In, has, any_of_at, any_of_any, has_in, in_has}
use Rattle.plan.specs.declared.Track.{Track}
use Rattle.plan.specs.declared.Release.{Release}
use Rattle.plan.specs.Kinds.{plain_kind, facing_kind, trailing_kind, exit_kind, kinds, uses, limit_of, plain, Plain, exit, Exit, forks, Forks, legged, Legged, point, Point, out, no_track, is_point}
use Rattle.plan.specs.Records.{Plan, track_of, home_of, route_of}
use Rattle.plan.specs.Layout.{leads, Leads, is_home, Home, stands_at, StandsAt}
use Rattle.plan.specs.Routes.{no_release, listed, Listed, points_of, release_of, released, Released, releases, Releases}
use Rattle.plan.specs.File.{ReadableTrack}

same_is : (x y : ℕ) → Is (eqb x y) ↔ (x ≡ y)
same_is x y = (eqb-true x y, eq-eqb x y)

-- a kind that is no exit uses a number
some_used : (kind : ℕ) → kind < kinds → (kind ≡ exit_kind → ⊥) → 0 < uses kind
unfolding uses
some_used kind h n = elim (same? kind plain_kind) [
  | inl e ↦ rw e (omega arith)
  | inr e ↦ (elim (same? kind facing_kind) [
    | inl f ↦ rw f (omega arith)
    | inr f ↦ (elim (same? kind trailing_kind) [ inl g ↦ rw g (omega arith) | inr g ↦ absurd (omega arith) ])
  ])
]

module _ (t : Track) where
  pub plain_is : Is (plain t) ↔ Plain t
  unfolding plain
  plain_is = same_is _ _

  pub exit_is : Is (exit t) ↔ Exit t
  unfolding exit
  exit_is = same_is _ _

  pub forks_is : Is (forks t) ↔ Forks t
  unfolding forks
  forks_is = same_is _ _

  pub legged_is : Is (legged t) ↔ Legged t
  unfolding legged
  legged_is = same_is _ _

  -- a plain track doesn't fork
  pub plain_straight : Plain t → Forks t → ⊥
  plain_straight a b = absurd (omega arith)

  -- a track that doesn't fork has one way out
  pub straight : (a b : Bool) → (Forks t → ⊥) → out t a ≡ out t b
  unfolding out
  straight a b n = rw (fails (forks t) (λ e. n (forks_is.0 e)))

  -- a way out names a track
  pub out_names : (tracks : ℕ) (lie : Bool) → ReadableTrack tracks t → (Exit t → ⊥) → out t lie < tracks
  unfolding out limit_of uses
  out_names tracks lie r n = go (forks t && lie) refl
    where
      go : (b : Bool) → (forks t && lie) ≡ b → cond b t.second t.first < tracks
      go true e = rw (forks_is.0 (and_l (forks t) lie e)) at r.second
      go false e = rw (lt-ltb 0 (uses t.kind) (some_used t.kind r.kind n)) at r.first

-- a number names a point where its track is one
pub point_is : (tracks : List Track) (v : ℕ) → Is (is_point tracks v) ↔ Point (get_or tracks v no_track)
unfolding is_point point
point_is tracks v = (
  λ e. elim (or_e (forks t) (legged t) e) [ inl h ↦ inl ((forks_is t).0 h) | inr h ↦ inr ((legged_is t).0 h) ],
  λ w. elim w [ inl h ↦ or_l (forks t) (legged t) ((forks_is t).1 h) | inr h ↦ or_r (forks t) (legged t) ((legged_is t).1 h) ],
)
  where
    t : Track
    t = get_or tracks v no_track

pub point_below : (tracks : List Track) (v : ℕ) → Is (is_point tracks v) → v < length tracks
unfolding is_point point forks legged
point_below tracks v e = elim (below? v (length tracks)) [
  | inl h ↦ h
  | inr h ↦ clash {b = false} (rw (get_or-eq_default tracks no_track h) at e) refl
]

-- Where tracks lead and signals stand.
module _ (p : Plan) where
  pub home_is : (u : ℕ) → Is (is_home p u) ↔ Home p u
  unfolding is_home home_of
  home_is u = (has_in u p.signals, in_has u p.signals)

  pub leads_is : (u v : ℕ) → Is (leads p u v) ↔ Leads p u v
  unfolding leads
  leads_is u v = (to, from)
    where
      either : Bool
      either = eqb (out (track_of p u) false) v || eqb (out (track_of p u) true) v

      to : Is (not (exit (track_of p u)) && either) → Leads p u v
      to e = (λ x. clash ((exit_is (track_of p u)).1 x) (not_t (exit (track_of p u)) (and_l (not (exit (track_of p u))) either e)), way (or_e (eqb (out (track_of p u) false) v) (eqb (out (track_of p u) true) v) (and_r (not (exit (track_of p u))) either e)))
        where
          way : Is (eqb (out (track_of p u) false) v) ⊎ Is (eqb (out (track_of p u) true) v) → (lie : Bool) × (out (track_of p u) lie ≡ v)
          way (inl w) = (false, eqb-true (out (track_of p u) false) v w)
          way (inr w) = (true, eqb-true (out (track_of p u) true) v w)

      from : Leads p u v → Is (not (exit (track_of p u)) && either)
      from l = and_i (not (exit (track_of p u))) either (not_i (exit (track_of p u)) (fails (exit (track_of p u)) (λ e. l.0 ((exit_is (track_of p u)).0 e)))) (by l.1.0 l.1.1)
        where
          by : (lie : Bool) → out (track_of p u) lie ≡ v → Is either
          by false e = or_l (eqb (out (track_of p u) false) v) (eqb (out (track_of p u) true) v) (eq-eqb (out (track_of p u) false) v e)
          by true e = or_r (eqb (out (track_of p u) false) v) (eqb (out (track_of p u) true) v) (eq-eqb (out (track_of p u) true) v e)

  -- what leads somewhere is a track of the plan
  pub leads_track : (u v : ℕ) → Leads p u v → u < length p.tracks
  unfolding track_of
  leads_track u v l = elim (below? u (length p.tracks)) [
    | inl h ↦ h
    | inr h ↦ absurd (l.0 (ap (λ t. t.kind) (get_or-eq_default p.tracks no_track h)))
  ]

  pub stands_is : (u s : ℕ) → Is (stands_at p u s) ↔ StandsAt p u s
  unfolding stands_at
  stands_is u s = (
    λ e. (ltb-true s (length p.signals) (and_l (ltb s (length p.signals)) (eqb (home_of p s) u) e), eqb-true (home_of p s) u (and_r (ltb s (length p.signals)) (eqb (home_of p s) u) e)),
    λ w. and_i _ _ (lt-ltb s (length p.signals) w.0) (eq-eqb (home_of p s) u w.1),
  )

-- What a route says.
module _ (p : Plan) (r : ℕ) where
  pub listed_is : (x : ℕ) → Is (listed (route_of p r).normal (route_of p r).reverse x) ↔ Listed p r x
  unfolding listed
  listed_is x = (
    λ e. elim (or_e (has x normal) (has x reverse) e) [ inl h ↦ inl (has_in x normal h) | inr h ↦ inr (has_in x reverse h) ],
    λ w. elim w [ inl h ↦ or_l (has x normal) (has x reverse) (in_has x normal h) | inr h ↦ or_r (has x normal) (has x reverse) (in_has x reverse h) ],
  )
    where
      normal : List ℕ
      normal = (route_of p r).normal

      reverse : List ℕ
      reverse = (route_of p r).reverse

  -- it lists a point for a lie
  pub lists : (x : ℕ) (lie : Bool) → In x (points_of p r lie) → Listed p r x
  unfolding points_of
  lists x false w = inl w
  lists x true w = inr w

  pub listed_lie : (x : ℕ) → Listed p r x → (lie : Bool) × In x (points_of p r lie)
  unfolding points_of
  listed_lie x (inl w) = (false, w)
  listed_lie x (inr w) = (true, w)

  pub released_is : (x : ℕ) → Is (released p r x) ↔ Released p r x
  unfolding released release_of
  released_is x = (
    λ e. let w = any_of_at (λ q. eqb q.point x) (route_of p r).releases no_release e in (w.0, w.1, eqb-true _ x w.2),
    λ w. any_of_any (λ q. eqb q.point x) (route_of p r).releases w.0 no_release w.1 (eq-eqb _ x w.2),
  )

  pub releases_is : (v x : ℕ) → Is (releases p r v x) ↔ Releases p r v x
  unfolding releases release_of
  releases_is v x = (
    λ e.
        let w = any_of_at gives (route_of p r).releases no_release e in
        let q = get_or (route_of p r).releases w.0 no_release in
        (w.0, w.1, eqb-true _ v (and_l (eqb q.track v) (eqb q.point x) w.2), eqb-true _ x (and_r (eqb q.track v) (eqb q.point x) w.2)),
    λ w. any_of_any gives (route_of p r).releases w.0 no_release w.1 (and_i _ _ (eq-eqb _ v w.2) (eq-eqb _ x w.3)),
  )
    where
      gives : Release → Bool
      gives q = eqb q.track v && eqb q.point x
