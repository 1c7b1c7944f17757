-- Walks along lists: on a list that rises the first is the lowest; of two lists the lower of both.
use Rattle.std.specs.Prelude.{None, Option, Some}
use mathlib.Core.Path.{◌≡◌, refl, sym, ap, ◌∙◌}
use mathlib.Core.Bool.{Bool, true, false, ◌&&◌, ◌||◌}
use mathlib.Core.Logic.{inl, inr}
use mathlib.Core.List.{List, [], ◌∷◌}
use Prim.Native.Nat.{ℕ, zero, suc, ◌+◌, ◌<◌, ◌≤◌}
use native.Mathlib.Omega.{arith}
use lib.ListN.{length}
use lib.Dec.{ltb}
use borrow.Author.Tests.{ne_eqb, lt-ltb, le-ltb}
use Rattle.laws.specs.Tests.{Is, clash, fails, same?, below?, and_r, and_i, or_l, or_r}
use Rattle.laws.specs.Lists.{All, all_map, has, In, has_in, in_has}
use Rattle.laws.specs.Search.{lowest, lowest_from, Lowest, lowest?, at_lowest}
use Rattle.plan.specs.Records.{Plan, route_of, entry_of}
use Rattle.plan.specs.Routes.{listed}
use Rattle.plan.specs.File.{Rises, Readable}
use Rattle.plan.proofs.Says.{point_below}
use Rattle.events.specs.Decide.{has_train, is_held, busy, with_train, busy_train, turns, held_other, held_point, derails, derailed_point}
use Rattle.events.proofs.Facts.{rises_lt, route_read, entry_read}
use Rattle.decide.proofs.Cells.{turns_listed}
use Rattle.decide.specs.Along.{RisingTracks, first_of, lower}

-- What a search finds: nothing where no number passes, and the same for two tests that agree.
none_lowest : (n : ℕ) (f : ℕ → Bool) → ((i : ℕ) → i < n → f i ≡ false) → lowest n f ≡ None
none_lowest n f h = elim (lowest? n f) [
  | inl w ↦ clash w.2.passes (h w.0 w.2.below)
  | inr w ↦ w.0
]

lowest_same : (n : ℕ) (f g : ℕ → Bool) → ((i : ℕ) → i < n → f i ≡ g i) → lowest n f ≡ lowest n g
lowest_same n f g h = elim (lowest? n g) [
  | inl w ↦ (let b = w.2.below in
      at_lowest n f record { below = b; passes = h w.0 b ∙ w.2.passes; first = λ i k. h i (omega arith) ∙ w.2.first i k } ∙ sym w.1)
  | inr w ↦ none_lowest n f (λ i k. h i k ∙ w.1 i k) ∙ sym w.0
]

-- A list that rises: its first number is its least, and what comes after it rises too.
least : (x : ℕ) (l : List ℕ) → Rises (x ∷ l) → (u : ℕ) → In u (x ∷ l) → x ≤ u
least x l h u (zero, k, e) = omega (arith, e)
least x l h u (suc j, k, e) = omega (arith, rises_lt (x ∷ l) h 0 (suc j) (omega arith) k, e)

after : (n x : ℕ) (l : List ℕ) → RisingTracks n (x ∷ l) → RisingTracks n l
unfolding All
after n x l w = record { each = w.each.1; rises = λ i h. let e : suc i + 1 ≡ suc (i + 1) = omega arith in rw e at (w.rises (suc i) (omega arith)) }

pub within : {n m : ℕ} (l : List ℕ) → n ≤ m → RisingTracks n l → All (λ u. u < m) l
within l h w = all_map (λ u k. omega arith) l w.each

rising_first : (n : ℕ) (f : ℕ → Bool) (l : List ℕ) → RisingTracks n l → lowest n (λ u. f u && has u l) ≡ first_of f l
unfolding first_of has All
rising_first n f [] w = none_lowest n _ (λ i h. fails _ (λ e. clash (and_r (f i) false e) refl))
rising_first n f (x ∷ l) w = go (f x) refl (rising_first n f l (after n x l w))
  where
    passes : f x ≡ true → Is (f x && has x (x ∷ l))
    passes t = and_i (f x) (has x (x ∷ l)) t (in_has x (x ∷ l) (0, omega arith, refl))

    first : (i : ℕ) → i < x → (f i && has i (x ∷ l)) ≡ false
    first i k = fails _ (λ e. let m = least x l w.rises i (has_in i (x ∷ l) (and_r (f i) (has i (x ∷ l)) e)) in absurd (omega arith))

    other : f x ≡ false → (u : ℕ) → (f u && has u (x ∷ l)) ≡ (f u && has u l)
    other t u = elim (same? x u) [
      | inl e ↦ (let z : f u ≡ false = rw (← e) t in rw z)
      | inr e ↦ rw (ne_eqb x u e)
    ]

    go : (b : Bool) → f x ≡ b → lowest n (λ u. f u && has u l) ≡ first_of f l → lowest n (λ u. f u && has u (x ∷ l)) ≡ first_of f (x ∷ l)
    go true t ih = at_lowest n _ record { below = w.each.0; passes = passes t; first = first } ∙ rw t
    go false t ih = lowest_same n _ _ (λ u _. other t u) ∙ ih ∙ rw t

-- A list that doesn't rise tells the two apart: of 5 and 3, in this order, a walk finds 5, and a search by number 3.
pub walk_is_no_search : let l : List ℕ = 5 ∷ 3 ∷ [] in let f : ℕ → Bool = λ u. ltb 2 u in (first_of f l ≡ Some 5) × (lowest 6 (λ u. f u && has u l) ≡ Some 3)
unfolding first_of lowest lowest_from has
walk_is_no_search = (refl, refl)

-- The lower of two that were found.
module _ {a b : Option ℕ} {x y : ℕ} (e : a ≡ Some x) (d : b ≡ Some y) where
  pub lower_other : y ≤ x → Some y ≡ lower a b
  unfolding lower
  lower_other h = elim (below? y x) [
    | inl k ↦ rw (e, d, lt-ltb y x k)
    | inr k ↦ (let same : y ≡ x = omega arith in rw (e, d, le-ltb y x k, same))
  ]

  pub lower_one : x ≤ y → Some x ≡ lower a b
  unfolding lower
  lower_one h = rw (e, d, le-ltb y x h)

pub lower_both : {a b c d : Option ℕ} → a ≡ c → b ≡ d → lower a b ≡ lower c d
lower_both e f = rw (e, f)

-- The lowest that passes either test is the lower of what each finds.
module _ (n : ℕ) (f g : ℕ → Bool) where
  by_one : {k : ℕ} → Lowest n f k → ((i : ℕ) → i < k → g i ≡ false) → lowest n (λ u. f u || g u) ≡ Some k
  by_one {k} l h = at_lowest n _ record { below = l.below; passes = or_l (f k) (g k) l.passes; first = λ i b. rw (l.first i b, h i b) }

  by_other : {k : ℕ} → Lowest n g k → ((i : ℕ) → i < k → f i ≡ false) → lowest n (λ u. f u || g u) ≡ Some k
  by_other {k} l h = at_lowest n _ record { below = l.below; passes = or_r (f k) (g k) l.passes; first = λ i b. rw (h i b, l.first i b) }

  either_lowest : lowest n (λ u. f u || g u) ≡ lower (lowest n f) (lowest n g)
  unfolding lower
  either_lowest = elim (lowest? n f) [
    | inl a ↦ elim (lowest? n g) [
      | inl b ↦ elim (below? b.0 a.0) [
        | inl h ↦ by_other b.2 (λ i k. a.2.first i (omega arith)) ∙ lower_other a.1 b.1 (omega arith)
        | inr h ↦ by_one a.2 (λ i k. b.2.first i (omega arith)) ∙ lower_one a.1 b.1 h
      ]
      | inr b ↦ by_one a.2 (λ i k. b.1 i (omega (arith, a.2.below))) ∙ rw (a.1, b.0)
    ]
    | inr a ↦ lowest_same n (λ u. f u || g u) g (λ i k. rw (a.1 i k)) ∙ rw a.0
  ]

-- 13: the lowest track of the clear list that has a train is the first that has one, and the train is the one on it.
pub busy_first : (n : ℕ) (clear trains : List ℕ) → RisingTracks n clear → busy_train n clear trains ≡ with_train trains (first_of (has_train trains) clear)
unfolding busy_train busy
busy_first n clear trains w = ap (with_train trains) (rising_first n (has_train trains) clear w)

-- 14 and 42: the lowest listed point is the lower of the first of each list.
module _ (n : ℕ) (normal reverse : List ℕ) (w : RisingTracks n normal) (v : RisingTracks n reverse) where
  listed_first : (f : ℕ → Bool) → lowest n (λ q. f q && listed normal reverse q) ≡ lower (first_of f normal) (first_of f reverse)
  unfolding listed
  listed_first f =
      lowest_same n _ _ (λ q _. apart (f q) (has q normal) (has q reverse))
      ∙ either_lowest n (λ q. f q && has q normal) (λ q. f q && has q reverse)
      ∙ rw (rising_first n f normal w, rising_first n f reverse v)
    where
      apart : (a b c : Bool) → (a && (b || c)) ≡ ((a && b) || (a && c))
      apart true b c = refl
      apart false b c = refl

  -- a test of points that would be turned: these are listed
  turned_first : (lies : List ℕ) (f : ℕ → Bool) → let g : ℕ → Bool = λ q. f q && turns normal reverse lies q in lowest n g ≡ lower (first_of g normal) (first_of g reverse)
  turned_first lies f = lowest_same n _ _ (λ q _. turns_listed normal reverse lies q (f q)) ∙ listed_first (λ q. f q && turns normal reverse lies q)

  pub held_first : (lies holds : List ℕ) → let f = held_other normal reverse lies holds in held_point n normal reverse lies holds ≡ lower (first_of f normal) (first_of f reverse)
  unfolding held_point held_other
  held_first lies holds = turned_first lies (is_held holds)

  pub derailed_first : (trains lies : List ℕ) → let f = derails normal reverse trains lies in derailed_point n normal reverse trains lies ≡ lower (first_of f normal) (first_of f reverse)
  unfolding derailed_point derails
  derailed_first trains lies = turned_first lies (has_train trains)

-- The lists of a plan that can be read rise, and their numbers are tracks.
module _ {p : Plan} (R : Readable p) {r : ℕ} (h : r < length p.routes) where
  pub clear_rising : RisingTracks (length p.tracks) (route_of p r).clear
  clear_rising = let w = route_read p R r h in record { each = w.clear.each; rises = w.clear_rises }

  pub normal_rising : RisingTracks (length p.tracks) (route_of p r).normal
  normal_rising = let w = route_read p R r h in record { each = all_map (point_below p.tracks) (route_of p r).normal w.normal.each; rises = w.normal_rises }

  pub reverse_rising : RisingTracks (length p.tracks) (route_of p r).reverse
  reverse_rising = let w = route_read p R r h in record { each = all_map (point_below p.tracks) (route_of p r).reverse w.reverse.each; rises = w.reverse_rises }

pub entry_rising : {p : Plan} → Readable p → {e : ℕ} → e < length p.entries → RisingTracks (length p.tracks) (entry_of p e).clear
entry_rising {p} R {e} h = let w = entry_read p R e h in record { each = w.clear.each; rises = w.clear_rises }
