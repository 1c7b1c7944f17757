-- Bytes in pieces: the whole events and what is left over, bytes after bytes, and the cells of an unfinished event.
use mathlib.Core.Path.{◌≡◌, refl, sym, ap, ◌∙◌}
use mathlib.Core.List.{List, [], ◌∷◌, ◌++◌, append_assoc}
use Prim.Native.Nat.{ℕ, zero, suc, ◌+◌, ◌-◌, ◌*◌, ◌/◌, ◌%◌, ◌<◌, ◌≤◌, min}
use native.Mathlib.Nat.{add-zero}
use native.Mathlib.Omega.{arith}
use lib.ListN.{length, get_or, drop, length-take, length-append, get_or-append}
use lib.Seq.{get_or-take, get_or-drop, drop-append-add}
use Rattle.events.specs.declared.Event.{Event}
use Rattle.events.specs.declared.Event.TheVariants.{Unknown}
use Rattle.events.specs.Events.{event_of, first_event, events_of, whole_events, left_over, unfinished_in, unfinished_cells}
use Rattle.events.proofs.Bytes.{event_whole}

-- How many there are, and the one at a place.

pub events_length : (bytes : List ℕ) → length (events_of bytes) ≡ (length bytes + 2) / 3
unfolding events_of
events_length [] = refl
events_length (a ∷ []) = refl
events_length (a ∷ (b ∷ [])) = refl
events_length (a ∷ (b ∷ (c ∷ rest))) = let h = events_length rest in omega arith

pub whole_length : (bytes : List ℕ) → length (whole_events bytes) ≡ length bytes / 3
unfolding whole_events
whole_length [] = refl
whole_length (a ∷ []) = refl
whole_length (a ∷ (b ∷ [])) = refl
whole_length (a ∷ (b ∷ (c ∷ rest))) = let h = whole_length rest in omega arith

pub left_length : (bytes : List ℕ) → length (left_over bytes) ≡ length bytes % 3
unfolding left_over
left_length [] = refl
left_length (a ∷ []) = refl
left_length (a ∷ (b ∷ [])) = refl
left_length (a ∷ (b ∷ (c ∷ rest))) = let h = left_length rest in omega arith

three_on : (i : ℕ) → 3 * suc i ≡ suc (suc (suc (3 * i)))
three_on i = omega arith

pub events_at : (bytes : List ℕ) (i : ℕ) → i < length (events_of bytes) → get_or (events_of bytes) i Unknown ≡ first_event (drop (3 * i) bytes)
unfolding events_of first_event
events_at [] i h = absurd (omega arith)
events_at (a ∷ []) zero h = refl
events_at (a ∷ []) (suc i) h = absurd (omega arith)
events_at (a ∷ (b ∷ [])) zero h = refl
events_at (a ∷ (b ∷ [])) (suc i) h = absurd (omega arith)
events_at (a ∷ (b ∷ (c ∷ rest))) zero h = refl
events_at (a ∷ (b ∷ (c ∷ rest))) (suc i) h = rw (three_on i) (events_at rest i (omega arith))

whole_at : (bytes : List ℕ) (i : ℕ) → i < length (whole_events bytes) → get_or (whole_events bytes) i Unknown ≡ first_event (drop (3 * i) bytes)
unfolding whole_events first_event
whole_at [] i h = absurd (omega arith)
whole_at (a ∷ []) i h = absurd (omega arith)
whole_at (a ∷ (b ∷ [])) i h = absurd (omega arith)
whole_at (a ∷ (b ∷ (c ∷ rest))) zero h = refl
whole_at (a ∷ (b ∷ (c ∷ rest))) (suc i) h = rw (three_on i) (whole_at rest i (omega arith))

left_at : (bytes : List ℕ) → left_over bytes ≡ drop (3 * length (whole_events bytes)) bytes
unfolding left_over whole_events
left_at [] = refl
left_at (a ∷ []) = refl
left_at (a ∷ (b ∷ [])) = refl
left_at (a ∷ (b ∷ (c ∷ rest))) = rw (three_on (length (whole_events rest))) (left_at rest)

-- Bytes after bytes.

pub whole_append : (x y : List ℕ) → whole_events (x ++ y) ≡ whole_events x ++ whole_events (left_over x ++ y)
unfolding whole_events left_over
whole_append [] y = refl
whole_append (a ∷ []) y = refl
whole_append (a ∷ (b ∷ [])) y = refl
whole_append (a ∷ (b ∷ (c ∷ x))) y = rw (whole_append x y)

pub left_append : (x y : List ℕ) → left_over (x ++ y) ≡ left_over (left_over x ++ y)
unfolding left_over
left_append [] y = refl
left_append (a ∷ []) y = refl
left_append (a ∷ (b ∷ [])) y = refl
left_append (a ∷ (b ∷ (c ∷ x))) y = left_append x y

-- all events are the whole ones and what is left over
pub events_apart : (x : List ℕ) → events_of x ≡ whole_events x ++ events_of (left_over x)
unfolding whole_events left_over events_of
events_apart [] = refl
events_apart (a ∷ []) = refl
events_apart (a ∷ (b ∷ [])) = refl
events_apart (a ∷ (b ∷ (c ∷ x))) = rw (events_apart x)

pub events_append : (x y : List ℕ) → events_of (x ++ y) ≡ whole_events x ++ events_of (left_over x ++ y)
events_append x y =
    events_apart (x ++ y)
    ∙ rw (whole_append x y, left_append x y) (append_assoc (whole_events x) _ _ ∙ ap (λ (l : List Event). whole_events x ++ l) (sym (events_apart (left_over x ++ y))))

-- The cells of an unfinished event.

pub left_few : (x : List ℕ) → length (left_over x) ≤ 2
left_few x = let h = left_length x in omega arith

pub waiting_count : (cells : List ℕ) → length (unfinished_in cells) ≡ min (get_or cells 0 0) 2
unfolding unfinished_in
waiting_count cells = length-take (get_or cells 0 0) _

-- they hold what they were given
pub cells_hold : (x : List ℕ) → length x ≤ 2 → unfinished_in (unfinished_cells x) ≡ x
unfolding unfinished_in unfinished_cells
cells_hold [] h = refl
cells_hold (a ∷ []) h = refl
cells_hold (a ∷ (b ∷ [])) h = refl
cells_hold (a ∷ (b ∷ (c ∷ x))) h = absurd (omega arith)

two_cells : (cells : List ℕ) (i : ℕ) → i < 2 → get_or (get_or cells 1 0 ∷ (get_or cells 2 0 ∷ [])) i 0 ≡ get_or cells (i + 1) 0
two_cells cells zero h = refl
two_cells cells (suc zero) h = refl
two_cells cells (suc (suc i)) h = absurd (omega arith)

-- An unfinished event and the next bytes, in the steps that the code takes.
module _ (cells bytes : List ℕ) {count : ℕ} (e : count ≡ length (unfinished_in cells)) where
  abbrev all : List ℕ
  all = unfinished_in cells ++ bytes

  all_length : length all ≡ count + length bytes
  all_length = length-append (unfinished_in cells) bytes ∙ ap (λ (n : ℕ). n + length bytes) (sym e)

  pub few : count ≤ 2
  few = let w = waiting_count cells in omega arith

  -- one of the bytes that are there
  pub byte_kept : (i : ℕ) → i < count → get_or cells (i + 1) 0 ≡ get_or all i 0
  unfolding unfinished_in
  byte_kept i h =
      let w = waiting_count cells in
      sym (get_or-append (unfinished_in cells) bytes 0 i (rw (← e) h)
      ∙ get_or-take (get_or cells 0 0) (get_or cells 1 0 ∷ (get_or cells 2 0 ∷ [])) i 0 (omega arith) ∙ two_cells cells i (omega (arith, few)))

  -- how many whole events
  pub whole_is : (count + length bytes) / 3 ≡ length (whole_events all)
  whole_is = let w = whole_length all in let n = all_length in omega arith

  pub whole_most : 3 * length (whole_events all) ≤ 2 + length bytes
  whole_most = let w = whole_length all in let n = all_length in let f = few in omega arith

  -- one of them
  module _ (i : ℕ) (h : i < length (whole_events all)) where
    pub place_most : 3 * i + 2 < 2 + length bytes
    place_most = let w = whole_length all in let n = all_length in let f = few in omega arith

    pub event_next : count ≤ 3 * i → first_event (drop (3 * i - count) bytes) ≡ get_or (whole_events all) i Unknown
    event_next z =
        let s : 3 * i ≡ length (unfinished_in cells) + (3 * i - count) = omega arith in
        sym (whole_at all i h ∙ ap (λ (n : ℕ). first_event (drop n all)) s ∙ ap first_event (drop-append-add (unfinished_in cells) bytes (3 * i - count)))

    pub event_first : {kind first second : ℕ} → kind ≡ get_or all (3 * i) 0 → first ≡ get_or all (3 * i + 1) 0 → second ≡ get_or all (3 * i + 2) 0
        → event_of kind first second ≡ get_or (whole_events all) i Unknown
    event_first k f s = let w = whole_length all in rw (k, f, s) (event_whole all (3 * i) (omega arith) ∙ sym (whole_at all i h))

  -- what is left over
  pub left_kept : {n first second : ℕ} → n ≡ length (whole_events all) → first ≡ get_or all (3 * n) 0 → second ≡ get_or all (3 * n + 1) 0
      → ((count + length bytes) % 3 ∷ (first ∷ (second ∷ []))) ≡ unfinished_cells (left_over all)
  unfolding unfinished_cells
  left_kept {n} k f s =
      let l : length (left_over all) ≡ (count + length bytes) % 3 = (let w = left_length all in let m = all_length in omega arith) in
      let a : get_or (left_over all) 0 0 ≡ get_or all (3 * n) 0 = rw (left_at all, ← k) (get_or-drop (3 * n) all 0 0 ∙ ap (λ (m : ℕ). get_or all m 0) (add-zero (3 * n))) in
      let b : get_or (left_over all) 1 0 ≡ get_or all (3 * n + 1) 0 = rw (left_at all, ← k) (get_or-drop (3 * n) all 1 0) in
      rw (l, a, b, f, s)
