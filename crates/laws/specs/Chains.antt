-- A test made of two, as code answers it: the first test decides, or the second does.
use Rattle.std.specs.Prelude.{◌≡◌, Bool, true, false, not, cond, ◌&&◌, ◌||◌, ℕ, eqb}

module _ {a A : Bool} (e : a ≡ A) where
  pub both_stop : (B : Bool) → a ≡ false → false ≡ (A && B)
  both_stop B t = rw (← e, t)

  pub both_go : {b B : Bool} → a ≡ true → b ≡ B → b ≡ (A && B)
  both_go t w = rw (← e, t, w)

  pub either_stop : (B : Bool) → a ≡ true → true ≡ (A || B)
  either_stop B t = rw (← e, t)

  pub either_go : {b B : Bool} → a ≡ false → b ≡ B → b ≡ (A || B)
  either_go t w = rw (← e, t, w)

  pub unless_stop : (B : Bool) → a ≡ false → true ≡ (not A || B)
  unless_stop B t = rw (← e, t)

  pub unless_go : {b B : Bool} → a ≡ true → b ≡ B → b ≡ (not A || B)
  unless_go t w = rw (← e, t, w)

  pub first_case : {b B : Bool} (C : Bool) → a ≡ true → b ≡ B → b ≡ cond A B C
  first_case C t w = rw (← e, t, w)

  pub second_case : {c C : Bool} (B : Bool) → a ≡ false → c ≡ C → c ≡ cond A B C
  second_case B t w = rw (← e, t, w)

  pub same_not : not a ≡ not A
  same_not = rw e

pub same_test : {a b m n : ℕ} → a ≡ m → b ≡ n → eqb a b ≡ eqb m n
same_test e w = rw (e, w)
