-- Walks along lists, and tests that are branches: what is left of a list finds what the whole does, and what each branch tells. The walk for a train is a
-- loop; those for points are chains, which go the same way (Found.antt).
use Rattle.std.specs.Prelude.{None, Some}
use mathlib.Core.Path.{◌≡◌, sym, ap, ◌∙◌}
use mathlib.Core.Bool.{Bool, true, false, ◌&&◌}
use mathlib.Core.Logic.{◌≢◌}
use mathlib.Core.List.{List}
use Prim.Native.Nat.{ℕ, ◌+◌, ◌-◌, ◌<◌, ◌≤◌}
use native.Mathlib.Omega.{arith}
use Rattle.std.proofs.Common.{take_all}
use lib.ListN.{length, get_or, take, drop}
use lib.Dec.{ltb}
use borrow.Author.Tests.{ne_eqb, lt-ltb, le-ltb}
use Rattle.laws.specs.Lists.{All, all_at, walk_step, walk_end}
use Rattle.state.specs.State.{no_train}
use Rattle.events.specs.Decide.{has_train, with_train}
use Rattle.decide.specs.Along.{first_of}

-- A walk in code: what is left of the list from its place i on finds what the list from its start on does.
pub record Walked (f : ℕ → Bool) (l : List ℕ) (start i : ℕ) : Type 0 where
  pub left : first_of f (drop i l) ≡ first_of f (drop start l)

module _ {f : ℕ → Bool} {l : List ℕ} {start i : ℕ} (w : Walked f l start i) where
  module _ {x : ℕ} (h : i < length l) (e : x ≡ get_or l i 0) where
    pub walk_met : f x ≡ true → Some x ≡ first_of f (drop start l)
    unfolding first_of
    walk_met t = sym (walk_step l i (first_of f) h ∙ rw (← e, t)) ∙ w.left

    pub walk_on : f x ≡ false → Walked f l start (i + 1)
    unfolding first_of
    walk_on t = record { left = sym (walk_step l i (first_of f) h ∙ rw (← e, t)) ∙ w.left }

  pub walk_over : length l ≤ i → None ≡ first_of f (drop start l)
  unfolding first_of
  walk_over h = sym (walk_end l i (first_of f) h) ∙ w.left

-- A walk that looks for a train: t is the one on the track x that it has come to.
pub record Looked (trains l : List ℕ) (start i : ℕ) : Type 0 where
  pub walked : Walked (has_train trains) l start i

module _ {trains l : List ℕ} {start i : ℕ} (w : Looked trains l start i) where
  module _ {x t : ℕ} (h : i < length l) (e : x ≡ get_or l i 0) (d : t ≡ get_or trains x no_train) where
    pub look_met : t ≢ no_train → Some (x, t) ≡ with_train trains (first_of (has_train trains) (drop start l))
    unfolding has_train
    look_met n = rw d (ap (with_train trains) (walk_met w.walked h e (rw (← d, ne_eqb t no_train n))))

    pub look_on : t ≡ no_train → Looked trains l start (i + 1)
    unfolding has_train
    look_on n = record { walked = walk_on w.walked h e (rw (← d, n)) }

  pub look_over : length l ≤ i → None ≡ with_train trains (first_of (has_train trains) (drop start l))
  look_over h = ap (with_train trains) (walk_over w.walked h)

-- The same where what is walked is a part of the list, and all of it.
module _ {trains l m : List ℕ} {i : ℕ} (w : Looked trains l 0 i) (same : m ≡ l) where
  module _ {x t : ℕ} (h : i < length m) (e : x ≡ get_or m i 0) (d : t ≡ get_or trains x no_train) where
    pub part_met : t ≢ no_train → Some (x, t) ≡ with_train trains (first_of (has_train trains) l)
    part_met = let k : i < length l = rw same at h in look_met w k (rw same at e) d

    pub part_on : t ≡ no_train → Looked trains l 0 (i + 1)
    part_on = let k : i < length l = rw same at h in look_on w k (rw same at e) d

  pub part_over : length m ≤ i → None ≡ with_train trains (first_of (has_train trains) l)
  part_over h = look_over w (rw same at h)

pub part_below : {n x i : ℕ} {l m : List ℕ} → m ≡ l → All (λ u. u < n) l → i < length m → x ≡ get_or m i 0 → x < n
part_below {n} {x} {i} {l} same w h e =
    let k : i < length l = rw same at h in
    let d : x ≡ get_or l i 0 = rw same at e in
    omega (arith, d, all_at _ _ _ 0 w k)

pub whole_of : {A : Type 0} (l : List A) → take (length l) l ≡ l
whole_of l = take_all (length l) l (omega arith)

pub whole_from : {A : Type 0} (l : List A) → take (length l - 0) l ≡ l
whole_from l = take_all (length l - 0) l (omega arith)

-- 11: whether the plan has the route or the entry, by the count that was read.
module _ {n m r : ℕ} (e : n ≡ m) where
  pub there : r < n → ltb r m ≡ true
  there h = rw (← e, lt-ltb r n h)

  pub absent : n ≤ r → ltb r m ≡ false
  absent h = rw (← e, le-ltb r n h)

-- Two tests, one after the other: the second is made where the first says yes.
pub and_no : {a c : Bool} (b : Bool) → c ≡ a → c ≡ false → c ≡ (a && b)
and_no b e n = rw (← e, n)

pub and_yes : {a b c d : Bool} → c ≡ a → c ≡ true → d ≡ b → d ≡ (a && b)
and_yes e y f = rw (← e, y, f)
