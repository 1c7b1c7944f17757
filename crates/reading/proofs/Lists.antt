-- Lists that are read element by element, and after their count, are sound for what specs/File.antt asks of them: within their limits, each
-- element allowed, rising or not. Assumes nothing.
use mathlib.Core.Path.{◌≡◌, refl, ap}
use mathlib.Core.List.{List, [], ◌∷◌, map, map-id, tail}
use mathlib.Core.Logic.{◌↔◌}
use Prim.Native.Nat.{ℕ, zero, suc, ◌+◌, ◌*◌, ◌≤◌, ◌<◌}
use native.Mathlib.Nat.{mul-le-mul_right}
use native.Mathlib.Numerals.{add-one}
use native.Mathlib.Omega.{arith}
use lib.ListN.{length}
use Rattle.laws.specs.Lists.{All, joined}
use Rattle.plan.specs.File.{counted_file, list_file, Rises, Within}
use Rattle.reading.specs.Reading.{Reader, free, above, counted, count, and_then, many}
use Rattle.reading.proofs.Sound.{Sound, count_sound, done_sound, as_sound, joint_sound, last_sound}

-- Things one after the other.

-- each is allowed after its forerunner, which says the least number that may follow
abbrev pub Chain : {A : Type 0} → (ℕ → A → Type 0) → (A → ℕ) → ℕ → List A → Type 0
Chain Ok next least [] = Unit
Chain Ok next least (a ∷ l) = Ok least a × Chain Ok next (next a) l

module _ {A : Type 0} {file : A → List ℕ} {Ok : ℕ → A → Type 0} {m : ℕ} {one : ℕ → Reader A} (next : A → ℕ) (each : (least : ℕ) → Sound file (Ok least) m (one least)) where
  many_part : {k least : ℕ} (l : List A) → (length l ≡ suc k) × Chain Ok next least l →
      (a : A) × Ok least a × (((length (tail l) ≡ k) × Chain Ok next (next a) (tail l)) × (l ≡ a ∷ tail l))
  many_part [] run = absurd (omega arith)
  many_part (a ∷ l) run = (a, run.1.0, ((omega arith, run.1.1), refl))

  pub many_sound : (k least : ℕ) → Sound (joined file) (λ l. (length l ≡ k) × Chain Ok next least l) (k * m) (many one next k least)
  unfolding many joined
  many_sound zero least = as_sound (done_sound []) (omega arith) (λ l e. rw e ((refl, tt), refl)) none
    where
      none : (l : List A) → (length l ≡ 0) × Chain Ok next least l → l ≡ []
      none [] run = refl
      none (a ∷ l) run = absurd (omega arith)
  many_sound (suc k) least =
      joint_sound (each least) (λ a ok. last_sound tail (λ l. a ∷ l) (λ l. refl) (many_sound k (next a))) (omega arith)
      (λ a l ok run. rw run.1 ((ap suc run.0.0, (ok, run.0.1)), refl)) many_part

-- things after their count, which their reader may know
counted_sound : {A : Type 0} {file : A → List ℕ} {Ok : ℕ → ℕ → A → Type 0} {m : ℕ} {one : ℕ → ℕ → Reader A} (least most : ℕ) (next : A → ℕ) →
    ((k from : ℕ) → Sound file (Ok k from) m (one k from)) →
    Sound (counted_file file) (λ l. ((least ≤ length l) × (length l ≤ most)) × Chain (Ok (length l)) next 0 l) (1 + most * m) (and_then (count least most) λ k. many (one k) next k 0)
unfolding counted_file
counted_sound {m} least most next each =
    joint_sound (count_sound least most) (λ k ok. as_sound (many_sound next (each k) k 0) (mul-le-mul_right m ok.1) (λ l run. (run, refl)) (λ l run. run)) (omega arith)
    (λ k l ok run. rw run.0 ((ok, run.1), refl)) (λ l ok. (length l, ok.0, (refl, ok.1)))

-- A list in any order.
free_chain : {A : Type 0} (Ok : ℕ → A → Type 0) (ok : A → Type 0) → ((a : A) → Ok 0 a ↔ ok a) → (l : List A) → Chain Ok free 0 l ↔ All ok l
unfolding All
free_chain Ok ok same [] = (λ c. tt, λ c. tt)
free_chain Ok ok same (a ∷ l) =
    let rest = free_chain Ok ok same l in
    (λ c. ((same a).0 c.0, rest.0 c.1), λ c. ((same a).1 c.0, rest.1 c.1))

pub free_sound : {A : Type 0} {file : A → List ℕ} {Ok : ℕ → ℕ → A → Type 0} {m : ℕ} {one : ℕ → ℕ → Reader A} (ok : ℕ → A → Type 0) (least most : ℕ) →
    ((k from : ℕ) → Sound file (Ok k from) m (one k from)) → ((k : ℕ) (a : A) → Ok k 0 a ↔ ok k a) →
    Sound (counted_file file) (λ l. Within least most (ok (length l)) l) (1 + most * m) (and_then (count least most) λ k. many (one k) free k 0)
free_sound {Ok} ok least most each same = as_sound (counted_sound least most free each) (omega arith)
    (λ l h. (record { enough = h.0.0; few = h.0.1; each = (free_chain (Ok (length l)) (ok (length l)) (same (length l)) l).0 h.1 }, refl))
    (λ l h. ((h.enough, h.few), (free_chain (Ok (length l)) (ok (length l)) (same (length l)) l).1 h.each))

-- A list that rises by a key.
rises_cons : (a b : ℕ) (l : List ℕ) → ((a < b) × Rises (b ∷ l)) ↔ Rises (a ∷ b ∷ l)
rises_cons a b l = (put, λ r. (r 0 (omega arith), λ i h. simp add-one (simp add-one at (r (suc i) (omega arith)))))
  where
    put : (a < b) × Rises (b ∷ l) → Rises (a ∷ b ∷ l)
    put c zero h = c.0
    put c (suc i) h = simp add-one (simp add-one at (c.1 i (omega arith)))

module _ {A : Type 0} (ok : A → Type 0) (key : A → ℕ) where
  chain_after : (v : ℕ) (l : List A) → Chain (λ least a. ok a × (least ≤ key a)) (λ a. above (key a)) (above v) l ↔ (All ok l × Rises (v ∷ map key l))
  unfolding All
  chain_after v [] = (λ c. (tt, λ i h. absurd (omega arith)), λ c. tt)
  chain_after v (a ∷ l) =
      let rest = chain_after (key a) l in
      let rise = rises_cons v (key a) (map key l) in
      (λ c. ((c.0.0, (rest.0 c.1).0), rise.0 (omega arith, (rest.0 c.1).1)), λ c. ((c.0.0, omega (arith, (rise.1 c.1).0)), rest.1 (c.0.1, (rise.1 c.1).1)))

  rising_chain : (l : List A) → Chain (λ least a. ok a × (least ≤ key a)) (λ a. above (key a)) 0 l ↔ (All ok l × Rises (map key l))
  unfolding All
  rising_chain [] = (λ c. (tt, λ i h. absurd (omega arith)), λ c. tt)
  rising_chain (a ∷ l) =
      let rest = chain_after (key a) l in
      (λ c. ((c.0.0, (rest.0 c.1).0), (rest.0 c.1).1), λ c. ((c.0.0, omega arith), rest.1 (c.0.1, c.1)))

  pub rising_sound : {file : A → List ℕ} {m : ℕ} {one : ℕ → Reader A} (most : ℕ) → ((from : ℕ) → Sound file (λ a. ok a × (from ≤ key a)) m (one from)) →
      Sound (counted_file file) (λ l. Within 0 most ok l × Rises (map key l)) (1 + most * m) (counted 0 most one (λ a. above (key a)))
  unfolding counted
  rising_sound most each = as_sound (counted_sound 0 most (λ a. above (key a)) (λ k. each)) (omega arith)
      (λ l h. (let c = (rising_chain l).0 h.1 in ((record { enough = h.0.0; few = h.0.1; each = c.0 }, c.1), refl)))
      (λ l h. ((h.0.enough, h.0.few), (rising_chain l).1 (h.0.each, h.1)))

-- Lists of numbers.
pub joined_numbers : (l : List ℕ) → joined (λ v. v ∷ []) l ≡ l
unfolding joined
joined_numbers [] = refl
joined_numbers (v ∷ l) = rw (joined_numbers l)

pub list_file_lem : (l : List ℕ) → list_file l ≡ counted_file (λ v. v ∷ []) l
unfolding list_file counted_file
list_file_lem l = rw (joined_numbers l)

pub rising_numbers : (ok : ℕ → Type 0) (most : ℕ) {one : ℕ → Reader ℕ} → ((least : ℕ) → Sound (λ v. v ∷ []) (λ v. ok v × (least ≤ v)) 1 (one least)) →
    Sound list_file (λ l. Within 0 most ok l × Rises l) (1 + most) (counted 0 most one above)
rising_numbers ok most each = as_sound (rising_sound ok (λ v. v) most each) (omega arith)
    (λ l h. ((h.0, rw map-id at h.1), list_file_lem l)) (λ l h. (h.0, rw map-id h.1))
