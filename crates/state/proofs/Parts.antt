-- Parts of cells: what stands at a place of one, and what each is when one part comes back. Assumes nothing.
use mathlib.Core.Path.{◌≡◌, sym, ap, ◌∙◌}
use mathlib.Core.List.{List, [], ◌∷◌, ◌++◌}
use Prim.Native.Nat.{ℕ, zero, suc, ◌+◌, ◌≤◌, ◌-◌}
use native.Mathlib.Omega.{arith}
use lib.ListN.{length, take, drop, length-append, length-drop}
use native.Mathlib.Nat.{zero-add}
use lib.Seq.{take_at, drop_at, take-nil, take-take, drop-drop, length-take-le}
use borrow.Rule.Slice.PartMut.{put_mid, take_put, drop_put}
use Rattle.state.specs.Cells.{part}

-- a part that the cells have room for has its size
pub part_long : (from size : ℕ) (l ys : List ℕ) → ys ≡ part from size l → from + size ≤ length l → length ys ≡ size
unfolding part
part_long from size l ys e h = ap length e ∙ length-take-le size (drop from l) (rw (length-drop from l) (omega arith))

-- a part is a part of the cells up to its end
from_front : (m n : ℕ) (l : List ℕ) → take n (drop m l) ≡ drop m (take (m + n) l)
from_front zero n l = ap (λ (k : ℕ). take k l) (sym (zero-add n))
from_front (suc m) n [] = take-nil n ∙ sym (ap (drop (suc m)) (take-nil (suc m + n)))
from_front (suc m) n (x ∷ l) = let z : suc m + n ≡ suc (m + n) = omega arith in rw z (from_front m n l)

from_end : (e m : ℕ) (l : List ℕ) → e ≤ m → drop m l ≡ drop (m - e) (drop e l)
from_end e m l h = let z : m ≡ e + (m - e) = omega arith in ap (λ (k : ℕ). drop k l) z ∙ sym (drop-drop (m - e) e l)

-- When a part is back, it is what came back, and a part that lies before or after it is as it was.
pub record Back (a e : ℕ) (l ys : List ℕ) : Type 0 where
  pub own : (size : ℕ) → size ≡ e - a → part a size (put_mid a (e - a) l ys) ≡ ys
  pub before : (from size : ℕ) → from + size ≤ a → part from size (put_mid a (e - a) l ys) ≡ part from size l
  pub after : (from size : ℕ) → e ≤ from → part from size (put_mid a (e - a) l ys) ≡ part from size l

module _ (a e : ℕ) (l ys : List ℕ) (h : a ≤ e) (g : e ≤ length l) (same : length (put_mid a (e - a) l ys) ≡ length l) where
  k : length ys ≡ e - a
  k =
      let n = length-take-le a l (omega arith) in
      let m = length-drop (e - a) (drop a l) in
      let o = length-drop a l in
      let w = sym (length-append (take a l) (ys ++ drop (e - a) (drop a l))) ∙ same in
      let v = length-append ys (drop (e - a) (drop a l)) in
      omega arith

  own : (size : ℕ) → size ≡ e - a → part a size (put_mid a (e - a) l ys) ≡ ys
  unfolding part
  own size z =
      ap (take size) (drop_at (take a l) (ys ++ drop (e - a) (drop a l)) a (length-take-le a l (omega arith)))
      ∙ take_at ys (drop (e - a) (drop a l)) size (k ∙ sym z)

  before : (from size : ℕ) → from + size ≤ a → part from size (put_mid a (e - a) l ys) ≡ part from size l
  unfolding part
  before from size w =
      from_front from size (put_mid a (e - a) l ys)
      ∙ ap (drop from) (sym (take-take (from + size) a (put_mid a (e - a) l ys) w) ∙ ap (take (from + size)) (take_put a (e - a) l ys (omega arith)) ∙ take-take (from + size) a l w)
      ∙ sym (from_front from size l)

  after : (from size : ℕ) → e ≤ from → part from size (put_mid a (e - a) l ys) ≡ part from size l
  unfolding part
  after from size w =
      ap (take size) (from_end e from (put_mid a (e - a) l ys) w ∙ ap (drop (from - e)) (drop_put a e l ys h g k) ∙ sym (from_end e from l w))

  pub back : Back a e l ys
  back = record { own = own; before = before; after = after }
