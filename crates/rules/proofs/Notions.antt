-- What the notions that the rules share mean: each test is true exactly when what it names is so.
use mathlib.Core.Path.{◌≡◌, refl, sym}
use mathlib.Core.Bool.{Bool, true, false, not, ◌&&◌, ◌||◌}
use mathlib.Core.Logic.{◌≢◌, ◌⊎◌, inl, inr, ◌↔◌}
use mathlib.Core.List.{List, [], ◌∷◌}
use Prim.Native.Nat.{ℕ, zero, suc, ◌<◌}
use native.Mathlib.Omega.{arith}
use native.Mathlib.Nat.{not-suc-le-zero}
use lib.ListN.{length, get_or}
use lib.Dec.{eqb}
use borrow.Author.Tests.{eqb-true, eqb-false, eq-eqb}
use Rattle.laws.specs.Tests.{Is, split, clash, and_l, and_r, and_i, or_e, or_l, or_r, not_t, not_i, fails}
use Rattle.laws.specs.Lists.{has, In, has_in, in_has, different}
use Rattle.laws.specs.Search.{all_below_at, all_below_all}
use Rattle.plan.specs.Kinds.{out, leg}
use Rattle.plan.specs.Records.{Plan, track_of}
use Rattle.plan.specs.Layout.{leads, Leads}
use Rattle.plan.specs.Routes.{points_of}
use Rattle.plan.proofs.Says.{leads_is}
use Rattle.rules.specs.Rules.{later, wants, wants_out, listed_out, wants_in, listed_in, none_leads, is_leg}

-- not both; not the one, or the other
module _ (a b : Bool) where
  pub nand_e : Is (not (a && b)) → Is a → b ≡ false
  nand_e e t = fails b (λ w. clash (and_i a b t w) (not_t (a && b) e))

  pub nand_i : (Is a → b ≡ false) → Is (not (a && b))
  nand_i h = not_i (a && b) (fails (a && b) (λ w. clash (and_r a b w) (h (and_l a b w))))

  pub imp_e : Is (not a || b) → Is a → Is b
  imp_e e t = elim (or_e (not a) b e) [ inl w ↦ clash t (not_t a w) | inr w ↦ w ]

  pub imp_i : (Is a → Is b) → Is (not a || b)
  imp_i h = elim (split a) [ inl t ↦ or_r (not a) b (h t) | inr t ↦ or_l (not a) b (not_i a t) ]

module _ (p : Plan) where
  pub none_leads_is : (v n : ℕ) → Is (none_leads p v n) ↔ ((u : ℕ) → u < n → Leads p u v → ⊥)
  unfolding none_leads
  none_leads_is v n = (
    λ e u h l. clash ((leads_is p u v).1 l) (not_t (leads p u v) (all_below_at n (λ w. not (leads p w v)) e u h)),
    λ f. all_below_all n (λ w. not (leads p w v)) (λ u h. not_i (leads p u v) (fails (leads p u v) (λ e. f u h ((leads_is p u v).0 e)))),
  )

  pub leg_is : (v u : ℕ) → Is (is_leg p v u) ↔ ((lie : Bool) × (u ≡ leg (track_of p v) lie))
  unfolding is_leg
  leg_is v u = (λ e. to (or_e (eqb (leg (track_of p v) false) u) (eqb (leg (track_of p v) true) u) e), λ w. from w.0 w.1)
    where
      to : Is (eqb (leg (track_of p v) false) u) ⊎ Is (eqb (leg (track_of p v) true) u) → (lie : Bool) × (u ≡ leg (track_of p v) lie)
      to (inl w) = (false, sym (eqb-true (leg (track_of p v) false) u w))
      to (inr w) = (true, sym (eqb-true (leg (track_of p v) true) u w))

      from : (lie : Bool) → u ≡ leg (track_of p v) lie → Is (eqb (leg (track_of p v) false) u || eqb (leg (track_of p v) true) u)
      from false e = or_l (eqb (leg (track_of p v) false) u) (eqb (leg (track_of p v) true) u) (eq-eqb (leg (track_of p v) false) u (sym e))
      from true e = or_r (eqb (leg (track_of p v) false) u) (eqb (leg (track_of p v) true) u) (eq-eqb (leg (track_of p v) true) u (sym e))

-- A list with no number twice.

abbrev Apart : List ℕ → Type 0
Apart l = (i j : ℕ) → i < j → j < length l → get_or l i 0 ≢ get_or l j 0

pub different_is : (l : List ℕ) → Is (different l) ↔ Apart l
unfolding different
different_is [] = (λ e i j h g w. absurd (not-suc-le-zero g), λ f. refl)
different_is (u ∷ l) = (to (different_is l).0, from (different_is l).1)
  where
    to : (Is (different l) → Apart l) → Is (not (has u l) && different l) → Apart (u ∷ l)
    to ih e i zero h g w = absurd (not-suc-le-zero h)
    to ih e zero (suc j) h g w = clash (in_has u l (j, omega arith, sym w)) (not_t (has u l) (and_l (not (has u l)) (different l) e))
    to ih e (suc i) (suc j) h g w = ih (and_r (not (has u l)) (different l) e) i j (omega arith) (omega arith) w

    from : (Apart l → Is (different l)) → Apart (u ∷ l) → Is (not (has u l) && different l)
    from ih f =
        and_i (not (has u l)) (different l)
        (not_i (has u l) (fails (has u l) (λ e. let w = has_in u l e in f 0 (suc w.0) (omega arith) (omega (arith, w.1)) (sym w.2))))
        (ih (λ i j h g. f (suc i) (suc j) (omega arith) (omega arith)))

-- On a list, and later there.

-- each x comes before each v
abbrev Order : ℕ → ℕ → List ℕ → Type 0
Order v x l = (i j : ℕ) → i < length l → j < length l → get_or l i 0 ≡ x → get_or l j 0 ≡ v → i < j

pub later_is : (v x : ℕ) (l : List ℕ) → Is (later v x l) ↔ (In v l × Order v x l)
unfolding later
later_is v x [] = (λ e. clash {b = false} e refl, λ w. absurd (not-suc-le-zero w.0.1))
later_is v x (u ∷ l) = elim (split (eqb u v)) [
  | inl q ↦ (λ e. here q (rw q at e), λ w. rw q (first q w.1))
  | inr q ↦ (λ e. further q ((later_is v x l).0 (rw q at e)), λ w. rw q ((later_is v x l).1 (inside q w.0.0 w.0.1 w.0.2, behind w.1)))
]
  where
    here : Is (eqb u v) → Is (not (has x (u ∷ l))) → In v (u ∷ l) × Order v x (u ∷ l)
    here q e = ((0, omega arith, eqb-true u v q), λ i j h g a b. clash (in_has x (u ∷ l) (i, h, a)) (not_t (has x (u ∷ l)) e))

    first : Is (eqb u v) → Order v x (u ∷ l) → Is (not (has x (u ∷ l)))
    first q f = not_i (has x (u ∷ l)) (fails (has x (u ∷ l)) (λ e.
        let y = has_in x (u ∷ l) e in not-suc-le-zero (f y.0 0 y.1 (omega arith) y.2 (eqb-true u v q))))

    further : eqb u v ≡ false → In v l × Order v x l → In v (u ∷ l) × Order v x (u ∷ l)
    further q w = ((suc w.0.0, omega (arith, w.0.1), w.0.2), order)
      where
        order : Order v x (u ∷ l)
        order i zero h g a b = absurd (eqb-false u v q b)
        order zero (suc j) h g a b = omega arith
        order (suc i) (suc j) h g a b = let z = w.1 i j (omega arith) (omega arith) a b in omega arith

    inside : eqb u v ≡ false → (i : ℕ) → i < suc (length l) → get_or (u ∷ l) i 0 ≡ v → In v l
    inside q zero h e = absurd (eqb-false u v q e)
    inside q (suc i) h e = (i, omega arith, e)

    behind : Order v x (u ∷ l) → Order v x l
    behind f i j h g a b = let z : suc i < suc j = f (suc i) (suc j) (omega arith) (omega arith) a b in omega arith

-- What a route lists and gives back.
module _ (p : Plan) (r : ℕ) where
  pub wants_is : (x : ℕ) (lie : Bool) → Is (wants p r x lie) ↔ In x (points_of p r lie)
  unfolding wants
  wants_is x lie = (has_in x (points_of p r lie), in_has x (points_of p r lie))

  -- listed for a lie by which its number, a way out or a leg, is v
  module _ (x v : ℕ) (number : Bool → ℕ) where
    test : Bool → Bool
    test lie = wants p r x lie && eqb (number lie) v

    abbrev By : Type 0
    By = (lie : Bool) × In x (points_of p r lie) × (number lie ≡ v)

    by_lie : Is (test false || test true) ↔ By
    unfolding test
    by_lie = (λ e. to (or_e (test false) (test true) e), λ w. from w.0 w.1 w.2)
      where
        one : (lie : Bool) → Is (test lie) → By
        one lie w = (lie, (wants_is x lie).0 (and_l (wants p r x lie) (eqb (number lie) v) w), eqb-true (number lie) v (and_r (wants p r x lie) (eqb (number lie) v) w))

        to : Is (test false) ⊎ Is (test true) → By
        to (inl w) = one false w
        to (inr w) = one true w

        back : (lie : Bool) → In x (points_of p r lie) → number lie ≡ v → Is (test lie)
        back lie w e = and_i (wants p r x lie) (eqb (number lie) v) ((wants_is x lie).1 w) (eq-eqb (number lie) v e)

        from : (lie : Bool) → In x (points_of p r lie) → number lie ≡ v → Is (test false || test true)
        from false w e = or_l (test false) (test true) (back false w e)
        from true w e = or_r (test false) (test true) (back true w e)

  pub listed_out_is : (x v : ℕ) → Is (listed_out p r x v) ↔ ((lie : Bool) × In x (points_of p r lie) × (out (track_of p x) lie ≡ v))
  unfolding listed_out wants_out test
  listed_out_is x v = by_lie x v (out (track_of p x))

  pub listed_in_is : (x u : ℕ) → Is (listed_in p r x u) ↔ ((lie : Bool) × In x (points_of p r lie) × (leg (track_of p x) lie ≡ u))
  unfolding listed_in wants_in test
  listed_in_is x u = by_lie x u (leg (track_of p x))
