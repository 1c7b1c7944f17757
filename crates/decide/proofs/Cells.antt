-- What the code's tests of one cell say, test by test.
use mathlib.Core.Path.{◌≡◌, refl, sym, ◌∙◌}
use mathlib.Core.Bool.{Bool, true, false, not, ◌&&◌}
use mathlib.Core.Logic.{inl, inr}
use mathlib.Core.List.{List}
use Prim.Native.Nat.{ℕ}
use lib.ListN.{get_or}
use lib.Dec.{eqb}
use borrow.Author.Tests.{eqb-true, eqb-false, eq-eqb, ne_eqb}
use Rattle.laws.specs.Tests.{Is, split, clash, and_r, or_l, or_r}
use Rattle.laws.specs.Lists.{has}
use Rattle.plan.specs.Routes.{listed}
use Rattle.events.specs.Decide.{lie_after, turns}

-- 14 and 42: a point that would get another lie in the end.

eqb_swap : (m n : ℕ) → eqb m n ≡ eqb n m
eqb_swap m n = elim (split (eqb m n)) [
  | inl e ↦ e ∙ sym (eq-eqb n m (sym (eqb-true m n e)))
  | inr e ↦ e ∙ sym (ne_eqb n m (λ q. eqb-false m n e (sym q)))
]

module _ (normal reverse lies : List ℕ) (q : ℕ) where
  pub turns_reverse : has q reverse ≡ true → not (eqb (get_or lies q 0) 1) ≡ turns normal reverse lies q
  unfolding turns lie_after
  turns_reverse r = rw (r, eqb_swap (get_or lies q 0) 1)

  module _ (r : has q reverse ≡ false) where
    pub turns_normal : has q normal ≡ true → not (eqb (get_or lies q 0) 0) ≡ turns normal reverse lies q
    unfolding turns lie_after
    turns_normal n = rw (r, n, eqb_swap (get_or lies q 0) 0)

    pub turns_unlisted : has q normal ≡ false → false ≡ turns normal reverse lies q
    unfolding turns lie_after
    turns_unlisted n = rw (r, n, eq-eqb (get_or lies q 0) (get_or lies q 0) refl)

-- A point that would be turned is listed: any other keeps its lie.
same_and : (a b : Bool) → (Is a → Is b) → a ≡ (a && b)
same_and true b h = sym (h refl)
same_and false b h = refl

pub turns_listed : (normal reverse lies : List ℕ) (q : ℕ) (b : Bool) → (b && turns normal reverse lies q) ≡ ((b && turns normal reverse lies q) && listed normal reverse q)
unfolding listed
turns_listed normal reverse lies q b = same_and _ _ (λ t. elim (split (has q reverse)) [
  | inl r ↦ or_r (has q normal) (has q reverse) r
  | inr r ↦ elim (split (has q normal)) [
    | inl n ↦ or_l (has q normal) (has q reverse) n
    | inr n ↦ clash (and_r b _ t) (sym (turns_unlisted normal reverse lies q r n))
  ]
])
