-- What holds of the elements of a list, at any level of types. At that of the code's values the tests are the library's words (`all_of` and `any_of` of
-- Lists.antt), which are declared there alone.
use Rattle.std.specs.Prelude.{◌≡◌, Bool, true, false, ◌&&◌, ◌||◌, length, get_or}
use Rattle.std.proofs.Math.Path.{refl}
use Rattle.std.proofs.Common.{ap, not-suc-le-zero}
use Rattle.std.proofs.Math.Logic.{inl, inr}
use mathlib.Core.List.{List, [], ◌∷◌}
use Prim.Native.Nat.{ℕ, zero, suc, ◌<◌}
use native.Mathlib.Omega.{arith}
use Rattle.laws.specs.Tests.{Is, clash, and_l, and_r, and_i, or_e, or_l, or_r}
use Rattle.laws.specs.Lists.{all_of, any_of}

-- every element passes
unfoldable pub every {ℓ} : {A : Type ℓ} → (A → Bool) → List A → Bool
every f [] = true
every f (a ∷ l) = f a && every f l

-- some element passes
unfoldable pub some {ℓ} : {A : Type ℓ} → (A → Bool) → List A → Bool
some f [] = false
some f (a ∷ l) = f a || some f l

module _ {ℓ} {A : Type ℓ} (f : A → Bool) where
  pub every_at : (l : List A) (i : ℕ) (d : A) → Is (every f l) → i < length l → Is (f (get_or l i d))
  unfolding every
  every_at [] i d e h = absurd (not-suc-le-zero h)
  every_at (a ∷ l) zero d e h = and_l (f a) (every f l) e
  every_at (a ∷ l) (suc i) d e h = every_at l i d (and_r (f a) (every f l) e) (omega arith)

  pub every_all : (l : List A) (d : A) → ((i : ℕ) → i < length l → Is (f (get_or l i d))) → Is (every f l)
  unfolding every
  every_all [] d h = refl
  every_all (a ∷ l) d h = and_i (f a) (every f l) (h 0 (omega arith)) (every_all l d (λ i hi. h (suc i) (omega arith)))

  pub some_at : (l : List A) (d : A) → Is (some f l) → (i : ℕ) × (i < length l) × Is (f (get_or l i d))
  unfolding some
  some_at [] d e = clash {b = false} e refl
  some_at (a ∷ l) d e = elim (or_e (f a) (some f l) e) [
    | inl h ↦ (0, omega arith, h)
    | inr h ↦ (let w = some_at l d h in (suc w.0, omega (arith, w.1), w.2))
  ]

  pub some_any : (l : List A) (i : ℕ) (d : A) → i < length l → Is (f (get_or l i d)) → Is (some f l)
  unfolding some
  some_any [] i d h e = absurd (not-suc-le-zero h)
  some_any (a ∷ l) zero d h e = or_l (f a) (some f l) e
  some_any (a ∷ l) (suc i) d h e = or_r (f a) (some f l) (some_any l i d (omega arith) e)

-- The library's words are these.
module _ {A : Type 0} (f : A → Bool) where
  pub every_is : (l : List A) → every f l ≡ all_of f l
  unfolding every
  every_is [] = refl
  every_is (a ∷ l) = ap (λ b. f a && b) (every_is l)

  pub some_is : (l : List A) → some f l ≡ any_of f l
  unfolding some
  some_is [] = refl
  some_is (a ∷ l) = ap (λ b. f a || b) (some_is l)
