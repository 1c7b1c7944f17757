-- A set of numbers as the bits of one number, of any width. A member is asked for by halves, so that every law is an induction.
use Rattle.std.specs.Prelude.{◌≡◌, refl, Bool, true, false, ◌≢◌, ℕ, zero, suc, ◌+◌, ◌*◌, ◌/◌, ◌%◌, ◌^◌, ◌<◌, ◌≤◌, eqb}
use Rattle.std.proofs.Common.{ap, arith, mod-eq_of_lt, eqb-true, eq-eqb, ne_eqb}
use Rattle.std.proofs.Math.Nat.{pow-succ', div-div-eq-div-mul}
use Rattle.std.proofs.Math.Pow.{pow-lt}
use Rattle.std.proofs.lemmas.Bool.{eqb-false}

-- r is in the set m; m with r; m without r
unfoldable pub member : ℕ → ℕ → Bool
member m zero = eqb (m % 2) 1
member m (suc r) = member (m / 2) r

unfoldable pub including : ℕ → ℕ → ℕ
including m zero = m / 2 * 2 + 1
including m (suc r) = including (m / 2) r * 2 + m % 2

unfoldable pub excluding : ℕ → ℕ → ℕ
excluding m zero = m / 2 * 2
excluding m (suc r) = excluding (m / 2) r * 2 + m % 2

half : (x m : ℕ) → (x * 2 + m % 2) / 2 ≡ x
half x m = omega arith

odd : (x m : ℕ) → (x * 2 + m % 2) % 2 ≡ m % 2
odd x m = omega arith

pub member_including : (m r : ℕ) → member (including m r) r ≡ true
unfolding member including
member_including m zero = eq-eqb ((m / 2 * 2 + 1) % 2) 1 (omega arith)
member_including m (suc r) = rw (half (including (m / 2) r) m) (member_including (m / 2) r)

pub member_including_other : (m r k : ℕ) → k ≢ r → member (including m r) k ≡ member m k
unfolding member including
member_including_other m zero zero h = absurd (h refl)
member_including_other m zero (suc k) h = ap (λ (x : ℕ). member x k) (omega arith)
member_including_other m (suc r) zero h = rw (odd (including (m / 2) r) m)
member_including_other m (suc r) (suc k) h = rw (half (including (m / 2) r) m) (member_including_other (m / 2) r k (λ e. h (ap suc e)))

pub member_excluding : (m r : ℕ) → member (excluding m r) r ≡ false
unfolding member excluding
member_excluding m zero = ne_eqb (m / 2 * 2 % 2) 1 (λ e. omega arith)
member_excluding m (suc r) = rw (half (excluding (m / 2) r) m) (member_excluding (m / 2) r)

pub member_excluding_other : (m r k : ℕ) → k ≢ r → member (excluding m r) k ≡ member m k
unfolding member excluding
member_excluding_other m zero zero h = absurd (h refl)
member_excluding_other m zero (suc k) h = ap (λ (x : ℕ). member x k) (omega arith)
member_excluding_other m (suc r) zero h = rw (odd (excluding (m / 2) r) m)
member_excluding_other m (suc r) (suc k) h = rw (half (excluding (m / 2) r) m) (member_excluding_other (m / 2) r k (λ e. h (ap suc e)))

-- what the code computes
pub including_same : (m r : ℕ) → member m r ≡ true → including m r ≡ m
unfolding member including
including_same m zero e = let o : m % 2 ≡ 1 = eqb-true _ _ e in omega arith
including_same m (suc r) e = let i = including_same (m / 2) r e in omega arith

pub excluding_same : (m r : ℕ) → member m r ≡ false → excluding m r ≡ m
unfolding member excluding
excluding_same m zero e = let o : (m % 2 ≡ 1 → ⊥) = eqb-false _ _ e in omega arith
excluding_same m (suc r) e = let i = excluding_same (m / 2) r e in omega arith

pub including_add : (m r : ℕ) → member m r ≡ false → m + 2 ^ r ≡ including m r
unfolding member including
including_add m zero e = let o : (m % 2 ≡ 1 → ⊥) = eqb-false _ _ e in omega arith
including_add m (suc r) e = let i = including_add (m / 2) r e in omega arith

pub excluding_add : (m r : ℕ) → member m r ≡ true → excluding m r + 2 ^ r ≡ m
unfolding member excluding
excluding_add m zero e = let o : m % 2 ≡ 1 = eqb-true _ _ e in omega arith
excluding_add m (suc r) e = let i = excluding_add (m / 2) r e in omega arith

-- the set stays within n numbers
pub including_lt : (n m r : ℕ) → m < 2 ^ n → r < n → including m r < 2 ^ n
unfolding including
including_lt zero m r h k = omega arith
including_lt (suc n) m zero h k = omega arith
including_lt (suc n) m (suc r) h k = let i = including_lt n (m / 2) r (omega arith) (omega arith) in omega arith

pub excluding_le : (m r : ℕ) → excluding m r ≤ m
unfolding excluding
excluding_le m zero = omega arith
excluding_le m (suc r) = let i = excluding_le (m / 2) r in omega arith

-- twice is once
pub including_including : (m r : ℕ) → including (including m r) r ≡ including m r
including_including m r = including_same (including m r) r (member_including m r)

pub excluding_excluding : (m r : ℕ) → excluding (excluding m r) r ≡ excluding m r
excluding_excluding m r = excluding_same (excluding m r) r (member_excluding m r)

-- the code's shifts
pub member_shifted : (m r : ℕ) → eqb (m / 2 ^ r % 2) 1 ≡ member m r
unfolding member
member_shifted m zero = let e : m / 1 ≡ m = omega arith in rw e
member_shifted m (suc r) = rw (pow-succ' 2 r, ← div-div-eq-div-mul m 2 (2 ^ r)) (member_shifted (m / 2) r)

pub one_shifted : (r : ℕ) → r < 64 → 1 * 2 ^ r % 2 ^ 64 ≡ 2 ^ r
one_shifted r h = let e : 1 * 2 ^ r ≡ 2 ^ r = omega arith in rw e (mod-eq_of_lt (pow-lt h))

-- a set is empty exactly if it has nothing below its bound
pub member_empty : (r : ℕ) → member 0 r ≡ false
unfolding member
member_empty zero = refl
member_empty (suc r) = member_empty r

pub no_member : (n m : ℕ) → m < 2 ^ n → ((r : ℕ) → r < n → member m r ≡ false) → m ≡ 0
unfolding member
no_member zero m h k = omega arith
no_member (suc n) m h k =
    let o : (m % 2 ≡ 1 → ⊥) = eqb-false (m % 2) 1 (k 0 (omega arith)) in
    let z = no_member n (m / 2) (omega arith) (λ r hr. k (suc r) (omega arith)) in
    omega arith
