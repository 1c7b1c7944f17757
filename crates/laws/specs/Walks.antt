-- Loops that test: what is left of a test from the place where the loop stands is the whole of it. Each law is a turn or an end of such a loop.
use Rattle.std.specs.Prelude.{◌≡◌, Bool, true, false, cond, List, ℕ, zero, suc, ◌+◌, ◌<◌, ◌≤◌, length, get_or, drop, None, Option, Some, ⊤}
use Rattle.std.specs.Fn.{Called, CalledAt}
use Rattle.std.specs.Iterator.{YieldsThen}
use Rattle.std.specs.List.{list_all, find, range_with_len, FoldsTo}
use Rattle.std.specs.Option.{MatchOption, option_map}
use Rattle.std.proofs.Math.Path.{refl}
use Rattle.std.proofs.Common.{sym, ap, ◌∙◌, inl, inr, arith, add-one, drop_of_length-le}
use Rattle.std.proofs.Math.Seq.{drop-cons}
use Rattle.std.proofs.iter.Yields.{nat_range_steps}
use Rattle.std.proofs.lemmas.Iterator.{YieldsList-from_range}
use Rattle.std.proofs.lemmas.Iterator.Search.{all_from_yields_List, find_from_yields_List}
use Rattle.std.proofs.lemmas.List.FromFn.{length-range_with_len, get_or-range_with_len}
use denote.Bor.{Bor}
use denote.Param.Members.{Mut}
use Rattle.laws.specs.Tests.{Is, split, clash, and_i}
use Rattle.laws.specs.Lists.{all_of, any_of, all_of_at, all_of_all}
use Rattle.laws.specs.Search.{all_below, all_below_at, all_below_all, lowest_from, lowest}

-- Over a list: every element passes, some element passes.
module _ {A : Type 0} (f : A → Bool) (l : List A) (i : ℕ) (d : A) where
  pub all_passed : i < length l → f (get_or l i d) ≡ true → all_of f (drop i l) ≡ all_of f (drop (i + 1) l)
  all_passed h e = rw (add-one, drop-cons l i d h, all_of, e)

  pub all_failed : i < length l → f (get_or l i d) ≡ false → all_of f (drop i l) ≡ false
  all_failed h e = rw (drop-cons l i d h, all_of, e)

  pub any_passed : i < length l → f (get_or l i d) ≡ true → any_of f (drop i l) ≡ true
  any_passed h e = rw (drop-cons l i d h, any_of, e)

  pub any_failed : i < length l → f (get_or l i d) ≡ false → any_of f (drop i l) ≡ any_of f (drop (i + 1) l)
  any_failed h e = rw (add-one, drop-cons l i d h, any_of, e)

module _ {A : Type 0} (f : A → Bool) (l : List A) (i : ℕ) where
  pub all_done : length l ≤ i → all_of f (drop i l) ≡ true
  all_done h = rw (drop_of_length-le l h)

  pub any_done : length l ≤ i → any_of f (drop i l) ≡ false
  any_done h = rw (drop_of_length-le l h)

-- Over the numbers below n: each that was passed is so.
module _ (f : ℕ → Bool) where
  pub below_start : Is (all_below 0 f)
  unfolding all_below
  below_start = refl

  pub below_passed : (i : ℕ) → Is (all_below i f) → f i ≡ true → Is (all_below (i + 1) f)
  unfolding all_below
  below_passed i h e = rw (add-one) (and_i (all_below i f) (f i) h e)

  pub below_failed : (n i : ℕ) → i < n → f i ≡ false → all_below n f ≡ false
  below_failed n i h e = elim (split (all_below n f)) [
    | inl w ↦ clash (all_below_at n f w i h) e
    | inr w ↦ w
  ]

  pub below_done : (n i : ℕ) → Is (all_below i f) → n ≤ i → Is (all_below n f)
  below_done n i e h = all_below_all n f (λ j hj. all_below_at i f e j (omega arith))

-- Over a list, a test of each place: what `list.iter().all(f)` answers, where f of the element is the place's own test.
pub below_each : {A : Type 0} (f : A → Bool) (l : List A) (d : A) (g : ℕ → Bool) → ((i : ℕ) → i < length l → g i ≡ f (get_or l i d)) → list_all f l ≡ all_below (length l) g
below_each f l d g e = elim (split (all_below (length l) g)) [
  | inl w ↦ all_of_all f l d (λ i h. sym (e i h) ∙ all_below_at (length l) g w i h) ∙ sym w
  | inr w ↦ elim (split (list_all f l)) [
    | inl v ↦ clash (all_below_all (length l) g (λ i h. e i h ∙ all_of_at f l i d v h)) w
    | inr v ↦ v ∙ sym w
  ]
]

-- The numbers below n as a list, and what `(0..n).all(f)` and `(0..n).find(f)` answer: what the chain ensures of its run, and what each call of the closure
-- says, make it the test of every number below n, or the lowest of them that passes.
module _ (f : ℕ → Bool) (n : ℕ) where
  pub below_list : list_all f (range_with_len 0 n) ≡ all_below n f
  below_list =
      let long : length (range_with_len 0 n) ≡ n = length-range_with_len 0 n in
      below_each f (range_with_len 0 n) 0 f (λ i h. ap f (omega (arith, get_or-range_with_len 0 n i 0 (omega arith)))) ∙ ap (λ m. all_below m f) long

  pub all_in_range : {F : Type 0} {g : Mut F (ℕ × Unit {0}) Bool} (u : _) (p : F) (r : Bool)
      → (xs : List ℕ) × (o : Option ℕ) × (j : F) × YieldsThen nat_range_steps (record { start = 0; end = n }) xs o u × FoldsTo (λ p x q. Called g p (x, tt) true q) p xs j × MatchOption o (r ≡ true) (λ x. (r ≡ false) × ((h : F) × Called g j (x, tt) false h))
      → ((x : ℕ) (b : Bool) (q : F) → Called g p (x, tt) b q → (q ≡ p) × (b ≡ f x)) → r ≡ all_below n f
  all_in_range u p r ran call = all_from_yields_List f u p r ran (YieldsList-from_range 0 n n refl (omega arith)) call ∙ below_list

  find_list : (m i : ℕ) → find f (range_with_len i m) ≡ lowest_from f m i
  unfolding lowest_from
  find_list zero i = refl
  find_list (suc m) i = ap (λ o. cond (f i) (Some i) o) (ap (λ j. find f (range_with_len j m)) (add-one i) ∙ find_list m (suc i))

  pub lowest_in_range : {F : Type 0} {g : Mut F (Bor ℕ × Unit {0}) Bool} (u : _) (p : F) (r : Option ℕ)
      → (xs : List ℕ) × (j : F) × YieldsThen nat_range_steps (record { start = 0; end = n }) xs r u × FoldsTo (λ p x q. CalledAt g p x false q) p xs j × MatchOption r ⊤ (λ x. (h : F) × CalledAt g j x true h)
      → ((x : ℕ) (b : Bool) (q : F) → CalledAt g p x b q → (q ≡ p) × (b ≡ f x)) → r ≡ lowest n f
  unfolding lowest
  lowest_in_range u p r ran call = sym (same r) ∙ find_from_yields_List f u p r ran (YieldsList-from_range 0 n n refl (omega arith)) call ∙ find_list n 0
    where
      same : (o : Option ℕ) → option_map (λ x. x) o ≡ o
      same (Some x) = refl
      same None = refl
