-- What holds of the elements of a list: as a sentence and as a test, with one law for each that turns the test into the sentence.
use Rattle.std.specs.Prelude.{◌≡◌, Bool, true, false, not, ◌&&◌, length, get_or, drop, eqb}
use Rattle.std.specs.List.{list_all, list_any}
use Rattle.std.proofs.Math.Path.{refl}
use Rattle.std.proofs.Common.{◌∙◌, not-suc-le-zero, add-one, drop_of_length-le, drop-cons, eqb-true, eq-eqb, ne_eqb}
use Rattle.std.proofs.Math.Logic.{inl, inr}
use mathlib.Core.List.{List, [], ◌∷◌, ◌++◌}
use Prim.Native.Nat.{ℕ, zero, suc, ◌+◌, ◌<◌, ◌≤◌}
use native.Mathlib.Omega.{arith}
use Rattle.laws.specs.Tests.{Is, clash, and_l, and_r, and_i, or_e, or_l, or_r}

-- each element of a list is so
unfoldable pub All {ℓ} : {A : Type ℓ} → (A → Type 0) → List A → Type 0
All ok [] = Unit
All ok (a ∷ l) = ok a × All ok l

pub all_at {ℓ} : {A : Type ℓ} (ok : A → Type 0) (l : List A) (i : ℕ) (d : A) → All ok l → i < length l → ok (get_or l i d)
unfolding All
all_at ok [] i d w h = absurd (not-suc-le-zero h)
all_at ok (a ∷ l) zero d w h = w.0
all_at ok (a ∷ l) (suc i) d w h = all_at ok l i d w.1 (omega arith)

-- What holds of everything holds of each element, and what follows from it too.

pub all_every : {A : Type 0} {P : A → Type 0} → ((a : A) → P a) → (l : List A) → All P l
unfolding All
all_every h [] = tt
all_every h (a ∷ l) = (h a, all_every h l)

pub all_map : {A : Type 0} {P Q : A → Type 0} → ((a : A) → P a → Q a) → (l : List A) → All P l → All Q l
unfolding All
all_map h [] s = tt
all_map h (a ∷ l) s = (h a s.0, all_map h l s.1)

-- the bytes of each element, in the list's order
unfoldable pub joined {ℓ κ} : {A : Type ℓ} {B : Type κ} → (A → List B) → List A → List B
joined f [] = []
joined f (a ∷ l) = f a ++ joined f l

-- Every element passes; some element passes: std's words, so that a chain in code is found to say them.
abbrev pub all_of : {A : Type 0} → (A → Bool) → List A → Bool
all_of f l = list_all f l

abbrev pub any_of : {A : Type 0} → (A → Bool) → List A → Bool
any_of f l = list_any f l

-- the list has the number
unfoldable pub has : ℕ → List ℕ → Bool
has x l = any_of (λ y. eqb y x) l

-- no number stands twice in the list
unfoldable pub different : List ℕ → Bool
different [] = true
different (u ∷ l) = not (has u l) && different l

-- everything from a place on is 0
unfoldable pub empty_from : ℕ → List ℕ → Bool
empty_from n l = all_of (λ x. eqb x 0) (drop n l)

module _ {A : Type 0} (f : A → Bool) where
  pub all_of_at : (l : List A) (i : ℕ) (d : A) → Is (all_of f l) → i < length l → Is (f (get_or l i d))
  all_of_at [] i d e h = absurd (not-suc-le-zero h)
  all_of_at (a ∷ l) zero d e h = and_l (f a) (all_of f l) e
  all_of_at (a ∷ l) (suc i) d e h = all_of_at l i d (and_r (f a) (all_of f l) e) (omega arith)

  pub all_of_all : (l : List A) (d : A) → ((i : ℕ) → i < length l → Is (f (get_or l i d))) → Is (all_of f l)
  all_of_all [] d h = refl
  all_of_all (a ∷ l) d h = and_i (f a) (all_of f l) (h 0 (omega arith)) (all_of_all l d (λ i hi. h (suc i) (omega arith)))

  pub any_of_at : (l : List A) (d : A) → Is (any_of f l) → (i : ℕ) × (i < length l) × Is (f (get_or l i d))
  any_of_at [] d e = clash {b = false} e refl
  any_of_at (a ∷ l) d e = elim (or_e (f a) (any_of f l) e) [
    | inl h ↦ (0, omega arith, h)
    | inr h ↦ (let w = any_of_at l d h in (suc w.0, omega (arith, w.1), w.2))
  ]

  pub any_of_any : (l : List A) (i : ℕ) (d : A) → i < length l → Is (f (get_or l i d)) → Is (any_of f l)
  any_of_any [] i d h e = absurd (not-suc-le-zero h)
  any_of_any (a ∷ l) zero d h e = or_l (f a) (any_of f l) e
  any_of_any (a ∷ l) (suc i) d h e = or_r (f a) (any_of f l) (any_of_any l i d (omega arith) e)

-- A number stands in a list.
abbrev pub In : ℕ → List ℕ → Type 0
In x l = (i : ℕ) × (i < length l) × (get_or l i 0 ≡ x)

pub has_in : (x : ℕ) (l : List ℕ) → Is (has x l) → In x l
unfolding has
has_in x l e = let w = any_of_at (λ y. eqb y x) l 0 e in (w.0, w.1, eqb-true _ x w.2)

pub in_has : (x : ℕ) (l : List ℕ) → In x l → Is (has x l)
unfolding has
in_has x l w = any_of_any (λ y. eqb y x) l w.0 0 w.1 (eq-eqb _ x w.2)

pub all_of_in : (f : ℕ → Bool) (l : List ℕ) → Is (all_of f l) → (x : ℕ) → Is (has x l) → Is (f x)
all_of_in f l e x m = let w = has_in x l m in rw (← w.2) (all_of_at f l w.0 0 e w.1)

pub in_all_of : (f : ℕ → Bool) (l : List ℕ) → ((x : ℕ) → In x l → Is (f x)) → Is (all_of f l)
in_all_of f l h = all_of_all f l 0 (λ i hi. h (get_or l i 0) (i, hi, refl))

-- Walking a list, from its place i on.
module _ (l : List ℕ) (i : ℕ) where
  pub walk_step {ℓ} : {C : Type ℓ} (f : List ℕ → C) → i < length l → f (drop i l) ≡ f (get_or l i 0 ∷ drop (i + 1) l)
  walk_step f h = rw (add-one, drop-cons l i 0)

  pub walk_end {ℓ} : {C : Type ℓ} (f : List ℕ → C) → length l ≤ i → f (drop i l) ≡ f []
  walk_end f h = rw drop_of_length-le

pub has_hit : (l : List ℕ) (i x : ℕ) → i < length l → get_or l i 0 ≡ x → has x (drop i l) ≡ true
unfolding has
has_hit l i x h e = walk_step l i (has x) h ∙ rw (eq-eqb (get_or l i 0) x e)

pub has_miss : (l : List ℕ) (i x : ℕ) → i < length l → (get_or l i 0 ≡ x → ⊥) → has x (drop i l) ≡ has x (drop (i + 1) l)
unfolding has
has_miss l i x h e = walk_step l i (has x) h ∙ rw (ne_eqb (get_or l i 0) x e)

pub has_end : (l : List ℕ) (i x : ℕ) → length l ≤ i → has x (drop i l) ≡ false
unfolding has
has_end l i x h = walk_end l i (has x) h
