-- What can be told apart by a test: a number is in a list or not, a route lists a point or not, gives it back on a track or not, a signal stands at a track or not. Assumes nothing.
use mathlib.Core.Bool.{Bool}
use mathlib.Core.Logic.{◌⊎◌, inl, inr}
use mathlib.Core.List.{List}
use Prim.Native.Nat.{ℕ, ◌<◌}
use native.Mathlib.Omega.{arith}
use lib.ListN.{length}
use Rattle.laws.specs.Tests.{Is, split, clash, below?}
use Rattle.laws.specs.Lists.{In, has, has_in, in_has}
use Rattle.plan.specs.Records.{Plan, no_route, route_of}
use Rattle.plan.specs.Layout.{StandsAt, stands_at}
use Rattle.plan.specs.Routes.{listed, Listed, Releases, releases}
use Rattle.plan.proofs.Says.{stands_is, listed_is, releases_is}
use Rattle.events.proofs.Facts.{get_or_none}

-- a statement holds or doesn't
abbrev pub Either : Type 0 → Type 0
Either A = A ⊎ (A → ⊥)

pub told? : (b : Bool) {A : Type 0} → (Is b → A) → (A → Is b) → Either A
told? b says hears = elim (split b) [ inl e ↦ inl (says e) | inr e ↦ inr (λ a. clash (hears a) e) ]

pub in? : (x : ℕ) (l : List ℕ) → Either (In x l)
in? x l = told? (has x l) (has_in x l) (in_has x l)

module _ (p : Plan) where
  pub listed? : (r x : ℕ) → Either (Listed p r x)
  listed? r x = told? (listed (route_of p r).normal (route_of p r).reverse x) (listed_is p r x).0 (listed_is p r x).1

  module _ (r v q : ℕ) where
    pub releases? : Either (Releases p r v q)
    releases? = told? (releases p r v q) (releases_is p r v q).0 (releases_is p r v q).1

    pub releases_below : Releases p r v q → r < length p.routes
    unfolding route_of
    releases_below w = elim (below? r (length p.routes)) [
      | inl h ↦ h
      | inr h ↦ (let z : w.0 < 0 = rw (get_or_none p.routes r no_route h) at w.1 in absurd (omega arith))
    ]

  pub stands_at? : (u s : ℕ) → Either (StandsAt p u s)
  stands_at? u s = told? (stands_at p u s) (stands_is p u s).0 (stands_is p u s).1
