-- Zeros after what was seen, in the steps that the code takes. Assumes nothing.
use Rattle.std.specs.Prelude.{Ok, Option, Some, None, MatchOption, slice_range, ◌⊎◌}
use Rattle.std.specs.Borrow.{Bor}
use mathlib.Core.Path.{◌≡◌, refl, sym, ap, ap₂, ◌∙◌}
use mathlib.Core.Bool.{Bool, true, false}
use mathlib.Core.Logic.{inl, inr}
use mathlib.Core.List.{List, [], ◌∷◌, ◌++◌}
use Prim.Native.Nat.{ℕ, ◌+◌, ◌-◌, ◌<◌, ◌≤◌}
use native.Mathlib.Omega.{arith}
use lib.ListN.{length, take, drop, replicate, length-drop, length-replicate, take-append-drop}
use lib.Seq.{length-take-le}
use lib.Dec.{eqb}
use borrow.Author.Tests.{eqb-true, lt-ltb, le-ltb}
use Rattle.laws.specs.Tests.{and_l, and_r, below?, clash}
use Rattle.laws.specs.Lists.{all_of, empty_from}
use Rattle.reading.specs.Reading.{scanned}
use Rattle.images.specs.Images.{zeros, zeros_in}
use Rattle.images.proofs.Roomy.{zeros_sound}

-- a list in which every number is 0
zero_list : (l : List ℕ) → empty_from 0 l ≡ true → l ≡ replicate (length l) 0
unfolding empty_from
zero_list [] e = refl
zero_list (x ∷ l) e = ap₂ ◌∷◌ (eqb-true x 0 (and_l (eqb x 0) (all_of (λ y. eqb y 0) l) e)) (zero_list l (and_r (eqb x 0) (all_of (λ y. eqb y 0) l) e))

-- Zeros that are looked at together.
module _ (image : List ℕ) (from to : ℕ) where
  zeros_before : to < from → false ≡ zeros_in image from to
  unfolding zeros_in
  zeros_before h = rw (lt-ltb to from h)

  zeros_beyond : from ≤ to → length image < to → false ≡ zeros_in image from to
  unfolding zeros_in
  zeros_beyond h k = rw (le-ltb to from h, lt-ltb (length image) to k)

  zeros_asked : {b : Bool} → from ≤ to → to ≤ length image → b ≡ empty_from 0 (take (to - from) (drop from image)) → b ≡ zeros_in image from to
  unfolding zeros_in
  zeros_asked h k e = rw (le-ltb to from h, le-ltb (length image) to k) e

  pub zeros_between : (o : Option (Bor (List ℕ))) {b : Bool}
      → MatchOption o ((to < from) ⊎ (length image < to)) (λ part. (from ≤ to) × (to ≤ length image) × (part.now ≡ slice_range image from to) × (length part.now + from ≡ to))
      → MatchOption o (b ≡ false) (λ part. b ≡ empty_from 0 part.now) → b ≡ zeros_in image from to
  zeros_between None h e = e ∙ elim (below? to from) [
    | inl k ↦ zeros_before k
    | inr k ↦ elim h [
      | inl w ↦ absurd (omega arith)
      | inr w ↦ zeros_beyond k w
    ]
  ]
  zeros_between (Some part) h e = zeros_asked h.0 h.1 (e ∙ ap (empty_from 0) h.2)

  pub zeros_found : zeros_in image from to ≡ true → Ok to ≡ scanned (zeros (to - from)) image from
  unfolding zeros_in scanned
  zeros_found e = elim (below? to from) [
    | inl h ↦ clash {b = false} (rw (lt-ltb to from h) at e) refl
    | inr h ↦ elim (below? (length image) to) [
      | inl k ↦ clash {b = false} (rw (le-ltb to from h, lt-ltb (length image) to k) at e) refl
      | inr k ↦ all h k (rw (le-ltb to from h, le-ltb (length image) to k) at e)
    ]
  ]
    where
      count : ℕ
      count = to - from

      all : from ≤ to → to ≤ length image → empty_from 0 (take count (drop from image)) ≡ true → Ok to ≡ scanned (zeros count) image from
      all h k w =
          let long : length (take count (drop from image)) ≡ count = length-take-le count (drop from image) (rw length-drop (omega arith)) in
          let front : take count (drop from image) ≡ replicate count 0 = zero_list (take count (drop from image)) w ∙ ap (λ (n : ℕ). replicate n 0) long in
          let there : drop from image ≡ replicate count 0 ++ drop count (drop from image) =
          sym (take-append-drop count (drop from image)) ∙ ap (λ (l : List ℕ). l ++ drop count (drop from image)) front in
          let end : from + length {A = ℕ} (replicate count 0) ≡ to = rw length-replicate (omega arith) in
          rw (there, (zeros_sound count).forth (replicate count 0) refl from (drop count (drop from image)), end)
