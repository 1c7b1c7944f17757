-- What can be told apart: the kinds of a track, homes, and the two lies.
use mathlib.Core.Path.{◌≡◌, refl}
use mathlib.Core.Bool.{Bool, true, false}
use mathlib.Core.Logic.{◌≢◌, inl, inr}
use Prim.Native.Nat.{ℕ}
use native.Mathlib.Omega.{arith}
use Rattle.plan.specs.Kinds.{out, leg, Forks, Legged, forks, legged}
use Rattle.plan.specs.Records.{Plan, track_of, home_of}
use Rattle.plan.specs.Layout.{Home}
use Rattle.plan.proofs.Says.{forks_is, legged_is}
use Rattle.state.specs.declared.State.{State}
use Rattle.state.specs.State.{normal_lie, reverse_lie, lie_at}
use Rattle.events.specs.Meaning.{Next, RunsThrough}
use Rattle.events.proofs.Cases.{Either, told?, in?}

module _ (p : Plan) where
  pub forks? : (u : ℕ) → Either (Forks (track_of p u))
  forks? u = told? (forks (track_of p u)) (forks_is (track_of p u)).0 (forks_is (track_of p u)).1

  pub legged? : (v : ℕ) → Either (Legged (track_of p v))
  legged? v = told? (legged (track_of p v)) (legged_is (track_of p v)).0 (legged_is (track_of p v)).1

  pub home? : (u : ℕ) → Either (Home p u)
  unfolding home_of
  home? u = in? u p.signals

-- A lie as the state has it.
abbrev pub lie_of : Bool → ℕ
lie_of false = normal_lie
lie_of true = reverse_lie

pub same_lie : (a b : Bool) → lie_of a ≡ lie_of b → a ≡ b
same_lie false false e = refl
same_lie true true e = refl
same_lie false true e = absurd (omega arith)
same_lie true false e = absurd (omega arith)

pub next_lie : (p : Plan) (σ : State) (u v : ℕ) → Next p σ u v → (lie : Bool) × (lie_at σ u ≡ lie_of lie) × (out (track_of p u) lie ≡ v)
next_lie p σ u v (inl w) = (false, w.0, w.1)
next_lie p σ u v (inr w) = (true, w.0, w.1)

pub leg_lie : (p : Plan) (σ : State) (u v : ℕ) → RunsThrough p σ u v → (lie : Bool) × (lie_at σ v ≡ lie_of lie) × (leg (track_of p v) lie ≢ u)
leg_lie p σ u v (t, inl w) = (false, w.0, w.1)
leg_lie p σ u v (t, inr w) = (true, w.0, w.1)
