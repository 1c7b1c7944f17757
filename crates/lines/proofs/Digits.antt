-- Laws of decimal digits: how they go by the last one, how many there are, and what they mean.
use mathlib.Core.Path.{◌≡◌, refl, sym, ap, ◌∙◌}
use mathlib.Core.Logic.{inl, inr}
use mathlib.Core.List.{List, [], ◌∷◌, ◌++◌}
use Prim.Native.Nat.{ℕ, zero, suc, ◌+◌, ◌-◌, ◌*◌, ◌/◌, ◌%◌, ◌^◌, ◌<◌, ◌≤◌}
use native.Mathlib.Omega.{arith}
use lib.ListN.{length, length-append, get_or-append}
use borrow.Author.Tests.{lt-ltb, le-ltb}
use Rattle.std.specs.Fmt.{decimal as written}
use Rattle.std.proofs.lemmas.Fmt.{decimal_from_appends, length-decimal-le}
use Rattle.laws.specs.Tests.{below?}
use Rattle.laws.specs.Lists.{All}
use Rattle.lines.specs.Decimal.{digit, decimal_in, decimal, value_from, Decimal, number_most}

-- By the last digit.

in_small : (k n : ℕ) → n < 10 → decimal_in (suc k) n ≡ digit n ∷ []
unfolding decimal_in
in_small k n h = rw (lt-ltb n 10 h)

in_step : (k n : ℕ) → 10 ≤ n → decimal_in (suc k) n ≡ decimal_in k (n / 10) ++ digit (n % 10) ∷ []
unfolding decimal_in
in_step k n h = rw (le-ltb n 10 h)

pub decimal_small : (n : ℕ) → n < 10 → decimal n ≡ digit n ∷ []
unfolding decimal
decimal_small n h = in_small 19 n h

pub decimal_two : (n : ℕ) → 10 ≤ n → n < 100 → decimal n ≡ digit (n / 10) ∷ digit (n % 10) ∷ []
unfolding decimal
decimal_two n h few = in_step 19 n h ∙ ap (λ l. l ++ digit (n % 10) ∷ []) (in_small 18 (n / 10) (omega arith))

-- What the library writes of a number.
pub decimal_written : (n : ℕ) → n < 2 ^ 64 → decimal n ≡ written n
unfolding decimal
decimal_written n fits = decimal_from_appends decimal_in (record { one = in_small; more = in_step }) 20 n fits (length-decimal-le 20 n (omega arith) (omega arith) fits)

in_most : (k n : ℕ) → length (decimal_in k n) ≤ k
unfolding decimal_in
in_most zero n = omega arith
in_most (suc k) n = elim (below? n 10) [
  | inl s ↦ rw (lt-ltb n 10 s) (omega arith)
  | inr s ↦ rw (le-ltb n 10 s, length-append (decimal_in k (n / 10)) (digit (n % 10) ∷ [])) (let i = in_most k (n / 10) in omega arith)
]

pub decimal_most : (n : ℕ) → length (decimal n) ≤ number_most
unfolding decimal
decimal_most n = in_most 20 n

-- What the digits mean.

all_append : (P : ℕ → Type 0) (l : List ℕ) (b : ℕ) → All P l → P b → All P (l ++ b ∷ [])
unfolding All
all_append P [] b w h = (h, tt)
all_append P (a ∷ l) b w h = (w.0, all_append P l b w.1 h)

value_append : (n : ℕ) (l : List ℕ) (b : ℕ) → value_from n (l ++ b ∷ []) ≡ value_from n l * 10 + (b - 48)
unfolding value_from
value_append n [] b = refl
value_append n (a ∷ l) b = value_append (n * 10 + (a - 48)) l b

one_digit : (n : ℕ) → n < 10 → Decimal n (digit n ∷ [])
unfolding All value_from
one_digit n h = record { some = omega arith; each = ((omega arith, omega arith), tt); value = omega arith; first = λ e. omega arith }

more_digits : (n : ℕ) (l : List ℕ) → 10 ≤ n → Decimal (n / 10) l → Decimal n (l ++ digit (n % 10) ∷ [])
more_digits n l h d = record {
  some = rw (length-append l (digit (n % 10) ∷ [])) (omega arith);
  each = all_append (λ b. (48 ≤ b) × (b ≤ 57)) l (digit (n % 10)) d.each (omega arith, omega arith);
  value = value_append 0 l (digit (n % 10)) ∙ ap (λ v. v * 10 + (digit (n % 10) - 48)) d.value ∙ omega arith;
  first = λ e. let z = d.first (sym (get_or-append l (digit (n % 10) ∷ []) 0 0 d.some) ∙ e) in omega arith;
}

in_means : (k n : ℕ) → n < 10 ^ suc k → Decimal n (decimal_in (suc k) n)
in_means zero n h = rw (in_small 0 n (omega arith)) (one_digit n (omega arith))
in_means (suc k) n h = elim (below? n 10) [
  | inl s ↦ rw (in_small (suc k) n s) (one_digit n s)
  | inr s ↦ rw (in_step (suc k) n s) (more_digits n (decimal_in (suc k) (n / 10)) s (in_means k (n / 10) (omega arith)))
]

pub decimal_means : (n : ℕ) → n < 10 ^ number_most → Decimal n (decimal n)
unfolding decimal
decimal_means n fits = in_means 19 n fits
