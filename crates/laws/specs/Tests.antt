-- Tests that answer true or false, and how a proof goes by them.
use Rattle.std.specs.Prelude.{◌≡◌, refl, Bool, true, false, not, cond, ◌&&◌, ◌||◌, ◌≢◌, ◌⊎◌, ℕ, ◌<◌, ◌≤◌, eqb, ltb}
use Rattle.std.proofs.Common.{inl, inr, arith, eqb-true, ltb-true, ltb-false}
use Rattle.std.proofs.lemmas.Bool.{eqb-false}

-- a test holds
abbrev pub Is : Bool → Type 0
Is b = b ≡ true

pub split : (b : Bool) → (b ≡ true) ⊎ (b ≡ false)
split true = inl refl
split false = inr refl

-- from a contradiction, anything
pub never {ℓ} : {A : Type ℓ} → ◌≡◌ {A = ℕ} 0 1 → A
never z = absurd (omega arith)

pub clash {ℓ} : {A : Type ℓ} {b : Bool} → b ≡ true → b ≡ false → A
clash p q = never (cc)

-- a test fails where what it names can't be so
pub fails : (b : Bool) → (Is b → ⊥) → b ≡ false
fails b h = elim (split b) [ inl e ↦ absurd (h e) | inr e ↦ e ]

pub same? : (m n : ℕ) → (m ≡ n) ⊎ (m ≢ n)
same? m n = elim (split (eqb m n)) [ inl e ↦ inl (eqb-true m n e) | inr e ↦ inr (eqb-false m n e) ]

pub below? : (m n : ℕ) → (m < n) ⊎ (n ≤ m)
below? m n = elim (split (ltb m n)) [ inl e ↦ inl (ltb-true m n e) | inr e ↦ inr (ltb-false m n e) ]

-- Both, either, not.

pub and_l : (a b : Bool) → Is (a && b) → Is a
and_l true b e = refl
and_l false b e = e

pub and_r : (a b : Bool) → Is (a && b) → Is b
and_r true b e = e
and_r false b e = clash {b = false} e refl

pub and_i : (a b : Bool) → Is a → Is b → Is (a && b)
and_i a b p q = rw (p, q)

pub or_e : (a b : Bool) → Is (a || b) → Is a ⊎ Is b
or_e true b e = inl refl
or_e false b e = inr e

pub or_l : (a b : Bool) → Is a → Is (a || b)
or_l a b e = rw e

pub or_r : (a b : Bool) → Is b → Is (a || b)
or_r true b e = refl
or_r false b e = e

pub not_t : (b : Bool) → Is (not b) → b ≡ false
not_t true e = clash {b = false} e refl
not_t false e = refl

pub not_f : (b : Bool) → not b ≡ false → Is b
not_f true e = refl
not_f false e = clash {b = true} refl e

pub not_i : (b : Bool) → b ≡ false → Is (not b)
not_i b e = rw e

pub cond_t {ℓ} : {A : Type ℓ} {b : Bool} (x y : A) → b ≡ true → cond b x y ≡ x
cond_t x y e = rw e

pub cond_f {ℓ} : {A : Type ℓ} {b : Bool} (x y : A) → b ≡ false → cond b x y ≡ y
cond_f x y e = rw e
