-- Rule 3 as code walks it: for a track led to, all tracks that may lead there, remembering whether one did.
use mathlib.Core.Path.{◌≡◌, refl, sym, ◌∙◌}
use mathlib.Core.Bool.{Bool, true, false, not, cond, ◌&&◌}
use Prim.Native.Nat.{ℕ, ◌+◌, ◌<◌, ◌≤◌}
use native.Mathlib.Numerals.{add-one}
use lib.ListN.{length}
use Rattle.laws.specs.Tests.{Is}
use Rattle.laws.specs.Search.{all_below}
use Rattle.laws.specs.Walks.{below_passed, below_failed, below_done}
use Rattle.plan.specs.Kinds.{legged}
use Rattle.plan.specs.Records.{Plan, track_of}
use Rattle.plan.specs.Layout.{leads}
use Rattle.rules.specs.Rules.{is_leg, none_leads, forbidden, led_once}

-- of the tracks below u none is forbidden to lead to v, and `first` says whether none leads there
pub record Led (p : Plan) (v u : ℕ) (first : Bool) : Type 0 where
  pub passed : Is (all_below u (λ w. not (forbidden p v w)))
  pub none : first ≡ none_leads p v u

and_true : (b : Bool) → (b && true) ≡ b
and_true true = refl
and_true false = refl

and_false : (b : Bool) → (b && false) ≡ false
and_false true = refl
and_false false = refl

module _ (p : Plan) (v : ℕ) where
  pub led_start : Led p v 0 true
  unfolding none_leads all_below
  led_start = record { passed = refl; none = refl }

  module _ (u : ℕ) {first b : Bool} (l : Led p v u first) (e : b ≡ leads p u v) where
    pub led_skip : b ≡ false → Led p v (u + 1) first
    unfolding none_leads all_below forbidden
    led_skip t = record {
      passed = below_passed (λ w. not (forbidden p v w)) u l.passed (rw (← e, t));
      none = l.none ∙ rw (add-one u, ← e, t, and_true (none_leads p v u));
    }

    module _ {m : Bool} (t : b ≡ true) (w : m ≡ cond (legged (track_of p v)) (not (is_leg p v u)) (not first)) where
      judged : forbidden p v u ≡ m
      unfolding forbidden
      judged = rw (← e, t, ← l.none, ← w)

      pub led_next : m ≡ false → Led p v (u + 1) false
      unfolding none_leads all_below
      led_next f = record {
        passed = below_passed (λ w. not (forbidden p v w)) u l.passed (rw (judged, f));
        none = sym (rw (add-one u, ← e, t, and_false (all_below u (λ w. not (leads p w v)))));
      }

      pub led_bad : u < length p.tracks → m ≡ true → led_once p v ≡ false
      unfolding led_once
      led_bad h f = below_failed (λ w. not (forbidden p v w)) (length p.tracks) u h (rw (judged, f))

  pub led_end : (u : ℕ) {first : Bool} → Led p v u first → length p.tracks ≤ u → led_once p v ≡ true
  unfolding led_once
  led_end u l h = below_done (λ w. not (forbidden p v w)) (length p.tracks) u l.passed h
