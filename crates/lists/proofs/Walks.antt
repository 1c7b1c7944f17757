-- What the walks of a list know, from their place on. Assumes nothing.
use Rattle.std.specs.Prelude.{◌≡◌, refl, Bool, true, false, not, ◌&&◌, List, [], ◌∷◌, ℕ, ◌+◌, ◌-◌, ◌<◌, ◌≤◌, length, get_or, take, drop, min}
use Rattle.std.specs.List.{fold, list_all}
use Rattle.std.proofs.Common.{sym, ap, ◌∙◌, inl, inr, arith, take_all, length-drop, drop_of_length-le}
use Rattle.laws.specs.Tests.{below?}
use Rattle.laws.specs.Lists.{has, different, walk_step, walk_end}

-- the rest of a list from a place on, which the code takes as a part
pub rest : {A : Type 0} (l : List A) (i : ℕ) → take (length l - i) (drop i l) ≡ drop i l
rest l i = take_all (length l - i) (drop i l) (rw (length-drop i l) (omega arith))

-- the same where the code takes it from the end on if the place is past it
pub rest_from : {A : Type 0} (l : List A) (i : ℕ) {k : ℕ} → k ≡ min i (length l) → take (length l - k) (drop k l) ≡ drop i l
rest_from l i {k} e = rest l k ∙ elim (below? i (length l)) [
  | inl h ↦ (let same : k ≡ i = omega arith in ap (λ j. drop j l) same)
  | inr h ↦ (let past : length l ≤ k = omega arith in drop_of_length-le l past ∙ sym (drop_of_length-le l h))
]

-- No number twice.
module _ (l : List ℕ) (i : ℕ) where
  pub different_done : length l ≤ i → different (drop i l) ≡ true
  unfolding different
  different_done h = walk_end l i different h

  module _ (h : i < length l) {b : Bool} (w : b ≡ has (get_or l i 0) (take (length l - (i + 1)) (drop (i + 1) l))) where
    pub different_failed : b ≡ true → different (drop i l) ≡ false
    unfolding different
    different_failed t = walk_step l i different h ∙ rw (← rest l (i + 1), ← w, t)

    pub different_passed : b ≡ false → different (drop i l) ≡ different (drop (i + 1) l)
    unfolding different
    different_passed t = walk_step l i different h ∙ go (sym w ∙ t)
      where
        go : has (get_or l i 0) (take (length l - (i + 1)) (drop (i + 1) l)) ≡ false → (not (has (get_or l i 0) (drop (i + 1) l)) && different (drop (i + 1) l)) ≡ different (drop (i + 1) l)
        go z = rw (rw (rest l (i + 1)) at z)

-- All is looked at: what the first elements say and what the others say.
pub fold_all : {A : Type 0} (f : A → Bool) (b : Bool) (l : List A) → fold (λ b x. b && f x) b l ≡ (b && list_all f l)
fold_all f true [] = refl
fold_all f false [] = refl
fold_all f true (x ∷ l) = fold_all f (f x) l
fold_all f false (x ∷ l) = fold_all f false l
