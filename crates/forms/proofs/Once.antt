-- A file has at most one form, and none if it is complete: every byte before a form is right, the byte at it is not, and why it is not right gives one
-- number. Assumes nothing.
use mathlib.Core.Path.{◌≡◌, refl}
use mathlib.Core.Logic.{◌≢◌, ◌⊎◌, inl, inr}
use mathlib.Core.List.{List}
use Prim.Native.Nat.{ℕ, ◌<◌, ◌≤◌}
use native.Mathlib.Omega.{arith}
use lib.ListN.{length, get_or}
use Rattle.laws.specs.Tests.{below?}
use Rattle.forms.specs.Forms.{Exists, Above, Rest, nothing, count, number, rest_at, Right, RightBefore, Formed, ends_early, bad_count, bad_number, not_rising, left_over, Complete}

-- the form of a byte that is not right
abbrev Reason : Rest → ℕ → ℕ → Type 0
Reason nothing b n = n ≡ 5
Reason (count least most then) b n = (n ≡ 2) × ((b < least) ⊎ (most < b))
Reason (number sort before then) b n = ((n ≡ 3) × (Exists sort b → ⊥)) ⊎ ((n ≡ 4) × Exists sort b × (Above before b → ⊥))

reason_same : (rest : Rest) (b : ℕ) {n m : ℕ} → Reason rest b n → Reason rest b m → n ≡ m
reason_same nothing b x y = omega arith
reason_same (count least most then) b x y = omega (arith, x.0, y.0)
reason_same (number sort before then) b (inl x) (inl y) = omega (arith, x.0, y.0)
reason_same (number sort before then) b (inl x) (inr y) = absurd (x.1 y.1)
reason_same (number sort before then) b (inr x) (inl y) = absurd (y.1 x.1)
reason_same (number sort before then) b (inr x) (inr y) = omega (arith, x.0, y.0)

reason_wrong : (rest : Rest) (b n : ℕ) → Reason rest b n → Right rest b → ⊥
reason_wrong nothing b n x y = y
reason_wrong (count least most then) b n (e, inl h) y = absurd (omega (arith, h, y.0))
reason_wrong (count least most then) b n (e, inr h) y = absurd (omega (arith, h, y.1))
reason_wrong (number sort before then) b n (inl x) y = x.1 y.0
reason_wrong (number sort before then) b n (inr x) y = x.2 y.1

module _ {whole : Rest} {s : List ℕ} where
  reason : {n at : ℕ} → Formed whole s n at → at < length s → Reason (rest_at whole s at) (get_or s at 0) n
  reason (ends_early at h g z) l = absurd (omega arith)
  reason (bad_count at h g e z) l = rw e (refl, z)
  reason (bad_number at h g e z) l = rw e (inl (refl, z))
  reason (not_rising at h g e z y) l = rw e (inr (refl, z, y))
  reason (left_over at h g e) l = rw e refl

  ended : {n at : ℕ} → Formed whole s n at → length s ≤ at → (n ≡ 1) × (at ≡ length s) × (rest_at whole s at ≢ nothing)
  ended (ends_early at h g z) l = (refl, g, z)
  ended (bad_count at h g e z) l = absurd (omega arith)
  ended (bad_number at h g e z) l = absurd (omega arith)
  ended (not_rising at h g e z y) l = absurd (omega arith)
  ended (left_over at h g e) l = absurd (omega arith)

  before : {n at : ℕ} → Formed whole s n at → RightBefore whole s at
  before (ends_early at h g z) = h
  before (bad_count at h g e z) = h
  before (bad_number at h g e z) = h
  before (not_rising at h g e z y) = h
  before (left_over at h g e) = h

  -- the bytes up to a form are right, so that no form stands before another
  not_before : {n m at k : ℕ} → Formed whole s n at → Formed whole s m k → at < k → ⊥
  not_before {n = n} {at = at} {k = k} x y h = elim (below? at (length s)) [
    | inl l ↦ reason_wrong (rest_at whole s at) (get_or s at 0) n (reason x l) (before y at h)
    | inr l ↦ elim (below? k (length s)) [ inl g ↦ absurd (omega arith) | inr g ↦ absurd (omega (arith, (ended x l).1, (ended y g).1)) ]
  ]

  same_number : {n m at : ℕ} → Formed whole s n at → Formed whole s m at → n ≡ m
  same_number {at = at} x y = elim (below? at (length s)) [ inl l ↦ reason_same (rest_at whole s at) (get_or s at 0) (reason x l) (reason y l) | inr l ↦ omega (arith, (ended x l).0, (ended y l).0) ]

  pub once : {n m at k : ℕ} → Formed whole s n at → Formed whole s m k → (n ≡ m) × (at ≡ k)
  once {n} {m} {at} {k} x y =
      let e : at ≡ k = elim (below? at k) [ inl h ↦ absurd (not_before x y h) | inr h ↦ elim (below? k at) [ inl g ↦ absurd (not_before y x g) | inr g ↦ omega arith ] ] in
      (same_number x (rw e y), e)

  pub not_complete : {n at : ℕ} → Formed whole s n at → Complete whole s → ⊥
  not_complete {n} {at} x c = elim (below? at (length s)) [
    | inl l ↦ reason_wrong (rest_at whole s at) (get_or s at 0) n (reason x l) (c.right at l)
    | inr l ↦ (ended x l).2 (rw (ended x l).1 c.end)
  ]
