-- Searches: the lowest number below n that passes, and chains of tests of which the first that applies answers.
use Rattle.std.specs.Prelude.{◌≡◌, refl, Bool, true, false, cond, ◌&&◌, ◌⊎◌, List, [], ◌∷◌, eqb, None, Option, Some}
use Rattle.std.proofs.Common.{ap, ◌∙◌, inl, inr, not-suc-le-zero, add-one}
use Prim.Native.Nat.{ℕ, zero, suc, ◌+◌, ◌<◌, ◌≤◌, ◌-◌}
use native.Mathlib.Omega.{arith}
use Rattle.laws.specs.Tests.{Is, never, clash, same?, below?, and_l, and_r, and_i}

-- every number below n passes
unfoldable pub all_below : ℕ → (ℕ → Bool) → Bool
all_below zero f = true
all_below (suc n) f = all_below n f && f n

pub all_below_at : (n : ℕ) (f : ℕ → Bool) → Is (all_below n f) → (i : ℕ) → i < n → Is (f i)
unfolding all_below
all_below_at zero f e i h = absurd (not-suc-le-zero h)
all_below_at (suc n) f e i h = elim (same? i n) [
  | inl q ↦ rw q (and_r (all_below n f) (f n) e)
  | inr q ↦ all_below_at n f (and_l (all_below n f) (f n) e) i (omega arith)
]

pub all_below_all : (n : ℕ) (f : ℕ → Bool) → ((i : ℕ) → i < n → Is (f i)) → Is (all_below n f)
unfolding all_below
all_below_all zero f h = refl
all_below_all (suc n) f h = and_i (all_below n f) (f n) (all_below_all n f (λ i hi. h i (omega arith))) (h n (omega arith))

-- the lowest of the n numbers from i on that passes
unfoldable pub lowest_from : (ℕ → Bool) → ℕ → ℕ → Option ℕ
lowest_from f zero i = None
lowest_from f (suc n) i = cond (f i) (Some i) (lowest_from f n (suc i))

-- the lowest number below n that passes
unfoldable pub lowest : ℕ → (ℕ → Bool) → Option ℕ
lowest n f = lowest_from f n 0

-- the first of a list that has a number, or another where none has it
unfoldable pub first_with : {A : Type 0} → (A → ℕ) → A → List A → ℕ → A
first_with number none [] n = none
first_with number none (a ∷ l) n = cond (eqb (number a) n) a (first_with number none l n)

-- A search in code, from its place i on.
module _ (f : ℕ → Bool) (n i : ℕ) where
  pub lowest_step : i < n → lowest_from f (n - i) i ≡ cond (f i) (Some i) (lowest_from f (n - (i + 1)) (i + 1))
  unfolding lowest_from
  lowest_step h = let e : n - i ≡ suc (n - (i + 1)) = omega arith in rw (e, add-one)

  pub lowest_hit : i < n → f i ≡ true → lowest_from f (n - i) i ≡ Some i
  lowest_hit h t = lowest_step h ∙ rw t

  pub lowest_miss : i < n → f i ≡ false → lowest_from f (n - i) i ≡ lowest_from f (n - (i + 1)) (i + 1)
  lowest_miss h t = lowest_step h ∙ rw t

  pub lowest_end : n ≤ i → lowest_from f (n - i) i ≡ None
  unfolding lowest_from
  lowest_end h = let e : n - i ≡ 0 = omega arith in rw e

pub lowest_start : (n : ℕ) (f : ℕ → Bool) → lowest_from f (n - 0) 0 ≡ lowest n f
unfolding lowest
lowest_start n f = let e : n - 0 ≡ n = omega arith in rw e

-- What a search says: the number passes and no lower one does; or none passes.
pub record Lowest (n : ℕ) (f : ℕ → Bool) (k : ℕ) : Type 0 where
  pub below : k < n
  pub passes : Is (f k)
  pub first : (i : ℕ) → i < k → f i ≡ false

from_at : (f : ℕ → Bool) (n i k : ℕ) → lowest_from f n i ≡ Some k → (i ≤ k) × (k < n + i) × Is (f k) × ((j : ℕ) → i ≤ j → j < k → f j ≡ false)
unfolding lowest_from
from_at f zero i k e = never (cc)
from_at f (suc n) i k e = go (f i) refl (from_at f n (suc i) k)
  where
    go : (b : Bool) → f i ≡ b → (lowest_from f n (suc i) ≡ Some k → (suc i ≤ k) × (k < n + suc i) × Is (f k) × ((j : ℕ) → suc i ≤ j → j < k → f j ≡ false))
        → (i ≤ k) × (k < suc n + i) × Is (f k) × ((j : ℕ) → i ≤ j → j < k → f j ≡ false)
    go true t ih = let w : i ≡ k = cc in (omega arith, omega arith, rw (← w) t, λ j hj hk. absurd (omega arith))
    go false t ih =
        let w = ih (cc) in
        (omega (arith, w.0), omega (arith, w.1), w.2, λ j hj hk. elim (same? j i) [ inl q ↦ rw q t | inr q ↦ w.3 j (omega arith) hk ])

from_none : (f : ℕ → Bool) (n i : ℕ) → lowest_from f n i ≡ None → (j : ℕ) → i ≤ j → j < n + i → f j ≡ false
unfolding lowest_from
from_none f zero i e j hi hj = absurd (omega arith)
from_none f (suc n) i e j hi hj = go (f i) refl (from_none f n (suc i))
  where
    go : (b : Bool) → f i ≡ b → (lowest_from f n (suc i) ≡ None → (j : ℕ) → suc i ≤ j → j < n + suc i → f j ≡ false) → f j ≡ false
    go true t ih = never (cc)
    go false t ih = elim (same? j i) [ inl q ↦ rw q t | inr q ↦ ih (cc) j (omega arith) (omega arith) ]

module _ (n : ℕ) (f : ℕ → Bool) where
  pub lowest_at : {k : ℕ} → lowest n f ≡ Some k → Lowest n f k
  unfolding lowest
  lowest_at {k} e = let w = from_at f n 0 k e in record { below = omega (arith, w.1); passes = w.2; first = λ i hi. w.3 i (omega arith) hi }

  pub lowest_none : lowest n f ≡ None → (i : ℕ) → i < n → f i ≡ false
  unfolding lowest
  lowest_none e i hi = from_none f n 0 e i (omega arith) (omega arith)

  -- either a lowest number passes, or none does
  pub lowest? : ((k : ℕ) × (lowest n f ≡ Some k) × Lowest n f k) ⊎ ((lowest n f ≡ None) × ((i : ℕ) → i < n → f i ≡ false))
  lowest? = go (lowest n f) refl
    where
      go : (o : Option ℕ) → lowest n f ≡ o → ((k : ℕ) × (lowest n f ≡ Some k) × Lowest n f k) ⊎ ((lowest n f ≡ None) × ((i : ℕ) → i < n → f i ≡ false))
      go (Some k) e = inl (k, e, lowest_at e)
      go None e = inr (e, lowest_none e)

  pub at_lowest : {k : ℕ} → Lowest n f k → lowest n f ≡ Some k
  at_lowest {k} l = elim lowest? [
    | inl w ↦ w.1 ∙ ap Some (one w.0 w.2)
    | inr w ↦ clash l.passes (w.1 k l.below)
  ]
    where
      one : (j : ℕ) → Lowest n f j → j ≡ k
      one j m = elim (below? j k) [
        | inl h ↦ clash m.passes (l.first j h)
        | inr h ↦ elim (below? k j) [ inl g ↦ clash l.passes (m.first k g) | inr g ↦ omega arith ]
      ]

-- A test of a chain: the answer for what it finds, or else the rest of the chain.
unfoldable pub unless {ℓ} : {A : Type ℓ} → Option ℕ → (ℕ → A) → A → A
unless (Some x) f y = f x
unless None f y = y

-- A chain is walked forwards: each test that was passed is known from there on.
pub cond_ind : {A : Type 0} (Q : A → Type 0) {x y : A} (b : Bool) → (b ≡ true → Q x) → (b ≡ false → Q y) → Q (cond b x y)
cond_ind Q true h k = h refl
cond_ind Q false h k = k refl

pub unless_ind {ℓ κ} : {A : Type ℓ} (Q : A → Type κ) (o : Option ℕ) (f : ℕ → A) (y : A) → ((x : ℕ) → o ≡ Some x → Q (f x)) → (o ≡ None → Q y) → Q (unless o f y)
unfolding unless
unless_ind Q (Some x) f y h k = h x refl
unless_ind Q None f y h k = k refl

pub unless_at {ℓ} : {A : Type ℓ} {o : Option ℕ} {x : ℕ} (f : ℕ → A) (y : A) → o ≡ Some x → unless o f y ≡ f x
unfolding unless
unless_at f y e = rw e

pub unless_nothing {ℓ} : {A : Type ℓ} {o : Option ℕ} (f : ℕ → A) (y : A) → o ≡ None → unless o f y ≡ y
unfolding unless
unless_nothing f y e = rw e
