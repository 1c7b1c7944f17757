-- Walks that write cells: each turn of a loop leaves what is still to be done, or what is done so far, and the end is the table of the cells.
use mathlib.Core.Path.{◌≡◌, refl, sym, ◌∙◌}
use mathlib.Core.Bool.{Bool, true, false, cond, ◌||◌}
use mathlib.Core.Logic.{◌≢◌, ◌⊎◌, inl, inr}
use mathlib.Core.List.{List, [], ◌∷◌, ◌++◌}
use Prim.Native.Nat.{ℕ, ◌+◌, ◌<◌, ◌≤◌}
use native.Mathlib.Omega.{arith}
use lib.ListN.{length, get_or, set, drop, length-set}
use lib.Seq.{get_or-set_same, get_or-set_other}
use lib.Dec.{eqb, ltb}
use borrow.Author.Tests.{eq-eqb, ne_eqb, lt-ltb, le-ltb, ltb-true, ltb-false}
use Rattle.laws.specs.Tests.{same?}
use Rattle.laws.specs.Lists.{All, has, walk_step, walk_end}
use Rattle.laws.specs.Tables.{tab, length_tab, get_or_tab, tab_cong, tab_of}
use Rattle.act.specs.Cells.{released}

-- one cell written
pub written : (m : List ℕ) (v a : ℕ) → set m v a ≡ tab (length m) (λ u. cond (eqb u v) a (get_or m u 0))
written m v a = tab_of (set m v a) (length m) _ 0 (length-set m v a) (λ u h. at u h (same? u v))
  where
    at : (u : ℕ) → u < length m → (u ≡ v) ⊎ (u ≢ v) → get_or (set m v a) u 0 ≡ cond (eqb u v) a (get_or m u 0)
    at u h (inl e) = rw (eq-eqb u v e, e) (get_or-set_same m v a 0 (omega arith))
    at u h (inr e) = rw (ne_eqb u v e) (get_or-set_other m v u a 0 e)

-- The cells that a list names, each put through g.
unfoldable pub writes : (ℕ → ℕ) → List ℕ → List ℕ → List ℕ
writes g [] m = m
writes g (q ∷ l) m = writes g l (set m q (g (get_or m q 0)))

module _ (g : ℕ → ℕ) where
  length_writes : (l m : List ℕ) → length (writes g l m) ≡ length m
  unfolding writes
  length_writes [] m = refl
  length_writes (q ∷ l) m = length_writes l (set m q (g (get_or m q 0))) ∙ length-set m q (g (get_or m q 0))

  pub writes_step : (l m : List ℕ) (i q a : ℕ) → i < length l → q ≡ get_or l i 0 → a ≡ g (get_or m q 0)
      → writes g (drop i l) m ≡ writes g (drop (i + 1) l) (set m q a)
  unfolding writes
  writes_step l m i q a h e w = walk_step l i (λ x. writes g x m) h ∙ rw (← e, w)

  pub writes_end : (l m : List ℕ) (i : ℕ) → length l ≤ i → writes g (drop i l) m ≡ m
  unfolding writes
  writes_end l m i h = walk_end l i (λ x. writes g x m) h

  -- a cell that is named twice is as if named once
  module _ (twice : (x : ℕ) → g (g x) ≡ g x) where
    writes_at : (l m : List ℕ) (k : ℕ) → k < length m → get_or (writes g l m) k 0 ≡ cond (has k l) (g (get_or m k 0)) (get_or m k 0)
    unfolding writes has
    writes_at [] m k h = refl
    writes_at (q ∷ l) m k h = writes_at l (set m q (g (get_or m q 0))) k (rw length-set h) ∙ go (same? q k) (has k l)
      where
        go : (q ≡ k) ⊎ (q ≢ k) → (b : Bool)
            → cond b (g (get_or (set m q (g (get_or m q 0))) k 0)) (get_or (set m q (g (get_or m q 0))) k 0) ≡ cond (eqb q k || b) (g (get_or m k 0)) (get_or m k 0)
        go (inl e) true = rw (eq-eqb q k e, e, get_or-set_same m k (g (get_or m k 0)) 0 h) (twice (get_or m k 0))
        go (inl e) false = rw (eq-eqb q k e, e, get_or-set_same m k (g (get_or m k 0)) 0 h)
        go (inr e) b = rw (ne_eqb q k e, get_or-set_other m q k (g (get_or m q 0)) 0 (λ x. e (sym x)))

    pub writes_tab : (l m : List ℕ) → writes g l m ≡ tab (length m) (λ k. cond (has k l) (g (get_or m k 0)) (get_or m k 0))
    writes_tab l m = tab_of (writes g l m) (length m) _ 0 (length_writes l m) (λ k h. writes_at l m k h)

-- The cells below i as f says, the others as they were.
unfoldable pub up_to : ℕ → (ℕ → ℕ) → List ℕ → ℕ → ℕ
up_to i f m k = cond (ltb k i) (f k) (get_or m k 0)

more : (k i : ℕ) → k ≢ i → ltb k (i + 1) ≡ ltb k i
more k i e = go (ltb k i) refl
  where
    go : (b : Bool) → ltb k i ≡ b → ltb k (i + 1) ≡ b
    go true t = let h = ltb-true k i t in lt-ltb k (i + 1) (omega arith)
    go false t = let h = ltb-false k i t in le-ltb k (i + 1) (omega arith)

module _ (f : ℕ → ℕ) (m : List ℕ) where
  here : (i : ℕ) → up_to i f m i ≡ get_or m i 0
  unfolding up_to
  here i = rw (le-ltb i i (omega arith))

  next : (i k : ℕ) (a : ℕ) → a ≡ f i → (k ≡ i) ⊎ (k ≢ i) → cond (eqb k i) a (up_to i f m k) ≡ up_to (i + 1) f m k
  unfolding up_to
  next i k a w (inl e) = rw (e, eq-eqb i i refl, lt-ltb i (i + 1) (omega arith)) w
  next i k a w (inr e) = rw (ne_eqb k i e, more k i e)

  pub done_none : m ≡ tab (length m) (up_to 0 f m)
  unfolding up_to
  done_none = tab_of m (length m) (up_to 0 f m) 0 refl (λ k h. rw (le-ltb k 0 (omega arith)))

  module _ (h : List ℕ) (i : ℕ) (e : h ≡ tab (length m) (up_to i f m)) where
    pub done_length : length h ≡ length m
    done_length = rw e (length_tab (length m) (up_to i f m))

    -- what stands in the next cell
    pub done_next : i < length m → get_or h i 0 ≡ get_or m i 0
    done_next k = rw e (get_or_tab (length m) (up_to i f m) i 0 k ∙ here i)

    pub done_set : (a : ℕ) → a ≡ f i → set h i a ≡ tab (length m) (up_to (i + 1) f m)
    done_set a w = written h i a ∙ rw done_length (tab_cong (length m) _ _ (λ k b. rw e (rw (get_or_tab (length m) (up_to i f m) k 0 b) (next i k a w (same? k i)))))

    pub done_same : get_or m i 0 ≡ f i → h ≡ tab (length m) (up_to (i + 1) f m)
    done_same w = rw e (tab_cong (length m) _ _ (λ j b. at j (same? j i)))
      where
        at : (j : ℕ) → (j ≡ i) ⊎ (j ≢ i) → up_to i f m j ≡ up_to (i + 1) f m j
        at j (inl q) = rw q (here i ∙ rw (← next i i (f i) refl (inl refl), eq-eqb i i refl) w)
        at j (inr q) = rw (← next i j (f i) refl (inr q), ne_eqb j i q)

    pub done_all : ((k : ℕ) → k < length m → i ≤ k → get_or m k 0 ≡ f k) → h ≡ tab (length m) f
    unfolding up_to
    done_all w = rw e (tab_cong (length m) _ _ (λ k b. go k b (ltb k i) refl))
      where
        go : (k : ℕ) → k < length m → (b : Bool) → ltb k i ≡ b → cond b (f k) (get_or m k 0) ≡ f k
        go k b true t = refl
        go k b false t = w k b (ltb-false k i t)

-- Releases, two numbers at a time: a pair of those that are left, and the rest.
pub released_end : (v : ℕ) (g : ℕ → ℕ) (m left : List ℕ) → length left < 2 → writes g (released v left) m ≡ m
unfolding released writes
released_end v g m [] k = refl
released_end v g m (a ∷ []) k = refl
released_end v g m (a ∷ (b ∷ x)) k = absurd (omega arith)

module _ (left pair rest : List ℕ) (is : left ≡ pair ++ rest) (two : length pair ≡ 2) where
  pub pair_below : (P : ℕ → Type 0) → All P left → P (get_or pair 1 0) × All P rest
  unfolding All
  pair_below P w = go pair two (rw is at w)
    where
      go : (l : List ℕ) → length l ≡ 2 → All P (l ++ rest) → P (get_or l 1 0) × All P rest
      go [] e w = absurd (omega arith)
      go (a ∷ []) e w = absurd (omega arith)
      go (a ∷ (b ∷ [])) e w = w.1
      go (a ∷ (b ∷ (c ∷ l))) e w = absurd (omega arith)

  module _ (v : ℕ) (g : ℕ → ℕ) (m : List ℕ) where
    released_pair : released v left ≡ cond (eqb (get_or pair 0 0) v) (get_or pair 1 0 ∷ released v rest) (released v rest)
    unfolding released
    released_pair = rw is (go pair two)
      where
        go : (l : List ℕ) → length l ≡ 2 → released v (l ++ rest) ≡ cond (eqb (get_or l 0 0) v) (get_or l 1 0 ∷ released v rest) (released v rest)
        go [] e = absurd (omega arith)
        go (a ∷ []) e = absurd (omega arith)
        go (a ∷ (b ∷ [])) e = refl
        go (a ∷ (b ∷ (c ∷ l))) e = absurd (omega arith)

    pub released_hit : (q a : ℕ) (m' : List ℕ) → get_or pair 0 0 ≡ v → q ≡ get_or pair 1 0 → a ≡ g (get_or m q 0) → m' ≡ set m q a
        → writes g (released v left) m ≡ writes g (released v rest) m'
    unfolding writes
    released_hit q a m' e w z y = rw (released_pair, eq-eqb (get_or pair 0 0) v e, ← w, y, z)

    pub released_miss : (get_or pair 0 0 ≡ v → ⊥) → writes g (released v left) m ≡ writes g (released v rest) m
    released_miss e = rw (released_pair, ne_eqb (get_or pair 0 0) v e)
