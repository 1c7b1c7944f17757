-- Paths searched for a track: whether one track is later than another. Assumes nothing.
use Rattle.std.specs.Prelude.{◌≡◌, ℕ, zero, suc, ◌+◌, ◌<◌, Bool, true, false, not, List, [], ◌∷◌, length, get_or, drop, eqb, None, Some}
use Rattle.std.specs.List.{position, position_from}
use Rattle.std.proofs.Common.{refl, sym, ◌∙◌, arith, not-suc-le-zero}
use Rattle.std.proofs.lemmas.List.Quantifiers.{position-Some}
use Rattle.std.proofs.lemmas.Iterator.Adapters.{position_from-zero}
use Rattle.laws.specs.Lists.{has}
use Rattle.laws.specs.Tests.{never}
use Rattle.rules.specs.Rules.{later}

module _ (v x : ℕ) where
  later_at : (l : List ℕ) (i : ℕ) → i < length l → eqb (get_or l i 0) v ≡ true → ((k : ℕ) → k < i → eqb (get_or l k 0) v ≡ false)
      → later v x l ≡ not (has x (drop i l))
  unfolding later
  later_at [] i h t n = absurd (not-suc-le-zero h)
  later_at (u ∷ l) zero h t n = rw t
  later_at (u ∷ l) (suc i) h t n = rw (n 0 (omega arith)) (later_at l i (omega arith) t (λ k hk. n (suc k) (omega arith)))

  later_from : (l : List ℕ) (k : ℕ) → position_from (λ u. eqb u v) k l ≡ None → later v x l ≡ false
  unfolding later
  later_from [] k e = refl
  later_from (u ∷ l) k e = go (eqb u v) refl (later_from l (k + 1))
    where
      go : (b : Bool) → eqb u v ≡ b → (position_from (λ u. eqb u v) (k + 1) l ≡ None → later v x l ≡ false) → later v x (u ∷ l) ≡ false
      go true t rest = let h = rw t at e in never (cc)
      go false t rest = let h = rw t at e in rw t (rest h)

  module _ (l : List ℕ) where
    -- the track is found: the point doesn't stand from there on; or it isn't on the path
    pub later_found : {i : ℕ} → position (λ u. eqb u v) l ≡ Some i → later v x l ≡ not (has x (drop i l))
    later_found {i} e = let w = position-Some (λ u. eqb u v) l i 0 e in later_at l i w.0 w.1 w.2

    pub later_absent : position (λ u. eqb u v) l ≡ None → later v x l ≡ false
    later_absent e = later_from l 0 (sym (position_from-zero (λ u. eqb u v) l) ∙ e)
