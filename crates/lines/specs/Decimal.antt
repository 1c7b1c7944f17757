-- A number as the bytes of its decimal digits, most significant first, and what that means.
use Rattle.std.specs.Prelude.{◌≡◌, cond, List, [], ◌∷◌, ◌++◌, ℕ, zero, suc, ◌+◌, ◌-◌, ◌*◌, ◌/◌, ◌%◌, ◌<◌, ◌≤◌, length, get_or, ltb}
use Rattle.laws.specs.Lists.{All}

-- the byte of a digit: "0" is 48
abbrev pub digit : ℕ → ℕ
digit d = 48 + d

-- the digits of a number that has no more of them than the steps allow
unfoldable pub decimal_in : ℕ → ℕ → List ℕ
decimal_in zero n = []
decimal_in (suc steps) n = cond (ltb n 10) (digit n ∷ []) (decimal_in steps (n / 10) ++ digit (n % 10) ∷ [])

-- a number of 64 bits, all that the code can hold, has at most so many digits
abbrev pub number_most : ℕ
number_most = 20

unfoldable pub decimal : ℕ → List ℕ
decimal n = decimal_in number_most n

-- the number that digits stand for, after those read already
unfoldable pub value_from : ℕ → List ℕ → ℕ
value_from n [] = n
value_from n (b ∷ digits) = value_from (n * 10 + (b - 48)) digits

-- What `decimal` means: digits only, that read back as the number, the first of them no "0" unless the number is 0.
pub record Decimal (n : ℕ) (digits : List ℕ) : Type 0 where
  pub some : 0 < length digits
  pub each : All (λ b. (48 ≤ b) × (b ≤ 57)) digits
  pub value : value_from 0 digits ≡ n
  pub first : get_or digits 0 0 ≡ 48 → n ≡ 0
