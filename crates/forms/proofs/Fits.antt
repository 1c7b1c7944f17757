-- A reader fits what is due: where it refuses, the bytes have that form, and where it gives a thing, what is due after it is due from there on. This goes
-- from two readers to one after the other, and to many, so that the whole follows from one count and one number. Assumes nothing.
use mathlib.Core.Path.{◌≡◌, refl, ap}
use mathlib.Core.Bool.{Bool, true, false}
use mathlib.Core.Logic.{◌⊎◌, inl, inr, ◌↔◌}
use mathlib.Core.List.{List, [], ◌∷◌}
use Prim.Native.Nat.{ℕ, zero, suc, ◌+◌, ◌<◌, ◌≤◌}
use native.Mathlib.Omega.{arith}
use lib.ListN.{length}
use lib.Dec.{ltb}
use borrow.Author.Tests.{ltb-true, ltb-false}
use Rattle.laws.specs.Tests.{Is, split, clash, never}
use Rattle.reading.specs.Reading.{form_number, form_offset, Got, form, got, Reader, follow, and_then, done, many, number as number_read, count as count-read, counted as counted-read}
use Rattle.forms.specs.Forms.{Sort, Exists, Forerunner, none, after, Above, Rest, count, number, Row, rows, counted, following, rest_at, Right, RightBefore}
use Rattle.forms.specs.Forms.{Formed, ends_early, bad_count, bad_number, not_rising, left_over, Complete}

-- A right byte moves everything on by one.

module _ (whole : Rest) (b : ℕ) (s : List ℕ) (ok : Right whole b) where
  right_next : {at : ℕ} → RightBefore (following whole b) s at → RightBefore whole (b ∷ s) (suc at)
  unfolding rest_at
  right_next h zero g = ok
  right_next h (suc i) g = h i (omega arith)

  formed_next : {n at : ℕ} → Formed (following whole b) s n at → Formed whole (b ∷ s) n (suc at)
  unfolding rest_at
  formed_next (ends_early at h l z) = ends_early (suc at) (right_next h) (ap suc l) z
  formed_next (bad_count at h l e z) = bad_count (suc at) (right_next h) (omega arith) e z
  formed_next (bad_number at h l e z) = bad_number (suc at) (right_next h) (omega arith) e z
  formed_next (not_rising at h l e z y) = not_rising (suc at) (right_next h) (omega arith) e z y
  formed_next (left_over at h l z) = left_over (suc at) (right_next h) (omega arith) z

  complete_next : Complete (following whole b) s → Complete whole (b ∷ s)
  unfolding rest_at
  complete_next c = record { right = right_next c.right; end = c.end }

-- What an answer tells of the bytes from an offset on: they have that form, or they are complete.
abbrev pub Told : Rest → ℕ → List ℕ → Got Unit → Type 0
Told rest at s (form f) = (i : ℕ) × (form_offset f ≡ at + i) × Formed rest s (form_number f) i
Told rest at s (got u next left) = Complete rest s

told_next : (rest : Rest) (at b : ℕ) (s : List ℕ) → Right rest b → (o : Got Unit) → Told (following rest b) (at + 1) s o → Told rest at (b ∷ s) o
told_next rest at b s ok (form f) w = (suc w.0, omega (arith, w.1), formed_next rest b s ok w.2)
told_next rest at b s ok (got u next left) w = complete_next rest b s ok w

-- A reader fits: its form is told of what is due; what is told of what is due after the thing that it gives is told of the whole.

abbrev pub Leads : {A : Type 0} → Rest → (A → Rest) → ℕ → List ℕ → Got A → Type 0
Leads rest then at s (form f) = Told rest at s (form f)
Leads rest then at s (got a next left) = (o : Got Unit) → Told (then a) next left o → Told rest at s o

pub record Fits {A : Type 0} (rest : Rest) (reader : Reader A) (then : A → Rest) : Type 0 where
  pub leads : (at : ℕ) (s : List ℕ) → Leads rest then at s (reader at s)

pub done_fits : {A : Type 0} (then : A → Rest) (a : A) → Fits (then a) (done a) then
unfolding done
done_fits then a = record { leads = λ at s o w. w }

-- One reader after the other. The second may go by a thing that the first gives.

pub record Gives {A : Type 0} (reader : Reader A) (a : A) : Type 0 where
  pub at : ℕ
  pub s : List ℕ
  pub next : ℕ
  pub left : List ℕ
  pub same : reader at s ≡ got a next left

module _ {A B : Type 0} {rest : Rest} {r : Reader A} {mid : A → Rest} {q : A → Reader B} {then : B → Rest}
    (first : Fits rest r mid) (second : (a : A) → Gives r a → Fits (mid a) (q a) then) where
  leads_on : (at : ℕ) (s : List ℕ) (a : A) (next : ℕ) (left : List ℕ) → ((o : Got Unit) → Told (mid a) next left o → Told rest at s o) →
      (g : Got B) → Leads (mid a) then next left g → Leads rest then at s g
  leads_on at s a next left w (form f) x = w (form f) x
  leads_on at s a next left w (got b n l) x = λ o t. w o (x o t)

  leads_both : (at : ℕ) (s : List ℕ) (g : Got A) → r at s ≡ g → Leads rest mid at s g → Leads rest then at s (follow g q)
  leads_both at s (form f) e w = w
  leads_both at s (got a next left) e w =
      leads_on at s a next left w (q a next left) ((second a (record { at = at; s = s; next = next; left = left; same = e })).leads next left)

  pub known_fits : Fits rest (and_then r q) then
  unfolding and_then
  known_fits = record { leads = λ at s. leads_both at s (r at s) refl (first.leads at s) }

pub then_fits : {A B : Type 0} {rest : Rest} {r : Reader A} {mid : A → Rest} {q : A → Reader B} {then : B → Rest} → Fits rest r mid →
    ((a : A) → Fits (mid a) (q a) then) → Fits rest (and_then r q) then
then_fits first second = known_fits first (λ a g. second a)

-- One byte.

none_before : (whole : Rest) (s : List ℕ) → RightBefore whole s 0
none_before whole s i h = absurd (omega arith)

module _ (least most : ℕ) (then : ℕ → Rest) where
  count_byte : (at b : ℕ) (s : List ℕ) → (ltb b least ≡ true) ⊎ (ltb b least ≡ false) → (ltb most b ≡ true) ⊎ (ltb most b ≡ false) →
      Leads (count least most then) then at (b ∷ s) (count-read least most at (b ∷ s))
  unfolding count-read rest_at
  count_byte at b s (inl x) y = rw x (0, omega arith, bad_count 0 (none_before _ _) (omega arith) refl (inl (ltb-true _ _ x)))
  count_byte at b s (inr x) (inl y) = rw (x, y) (0, omega arith, bad_count 0 (none_before _ _) (omega arith) refl (inr (ltb-true _ _ y)))
  count_byte at b s (inr x) (inr y) = rw (x, y) (told_next _ at b s (ltb-false _ _ x, ltb-false _ _ y))

  pub count_fits : Fits (count least most then) (count-read least most) then
  unfolding count-read rest_at
  count_fits = record {
    leads = λ at. elim [
      | [] ↦ (0, omega arith, ends_early 0 (none_before _ _) refl (λ e. never (cc)))
      | b ∷ s ↦ count_byte at b s (split (ltb b least)) (split (ltb most b))
    ];
  }

-- the least number above a forerunner
abbrev pub least_of : Forerunner → ℕ
least_of none = 0
least_of (after v) = v + 1

not_above : (before : Forerunner) (b : ℕ) → b < least_of before → Above before b → ⊥
not_above none b h g = absurd (omega arith)
not_above (after v) b h g = absurd (omega arith)

is_above : (before : Forerunner) (b : ℕ) → least_of before ≤ b → Above before b
is_above none b h = tt
is_above (after v) b h = omega arith

module _ (sort : Sort) (fits : ℕ → Bool) (same : (b : ℕ) → Is (fits b) ↔ Exists sort b) (before : Forerunner) (then : ℕ → Rest) where
  missing : (b : ℕ) → fits b ≡ false → Exists sort b → ⊥
  missing b x n = clash ((same b).1 n) x

  number_byte : (at b : ℕ) (s : List ℕ) → (fits b ≡ true) ⊎ (fits b ≡ false) → (ltb b (least_of before) ≡ true) ⊎ (ltb b (least_of before) ≡ false) →
      Leads (number sort before then) then at (b ∷ s) (number_read fits (least_of before) at (b ∷ s))
  unfolding number_read rest_at
  number_byte at b s (inr x) y = rw x (0, omega arith, bad_number 0 (none_before _ _) (omega arith) refl (missing b x))
  number_byte at b s (inl x) (inl y) =
      rw (x, y) (0, omega arith, not_rising 0 (none_before _ _) (omega arith) refl ((same b).0 x) (not_above before b (ltb-true _ _ y)))
  number_byte at b s (inl x) (inr y) = rw (x, y) (told_next _ at b s ((same b).0 x, is_above before b (ltb-false _ _ y)))

  pub number_fits : Fits (number sort before then) (number_read fits (least_of before)) then
  unfolding number_read rest_at
  number_fits = record {
    leads = λ at. elim [
      | [] ↦ (0, omega arith, ends_early 0 (none_before _ _) refl (λ e. never (cc)))
      | b ∷ s ↦ number_byte at b s (split (fits b)) (split (ltb b (least_of before)))
    ];
  }

-- Rows one after the other, and rows after their count.
module _ {A : Type 0} (row : Row) (one : ℕ → Reader A) (next : A → ℕ) (own : A → Forerunner) (least_own : (a : A) → next a ≡ least_of (own a))
    (each : (before : Forerunner) (then : Forerunner → Rest) → Fits (row before then) (one (least_of before)) (λ a. then (own a))) where
  many_fits : (n : ℕ) (before : Forerunner) (rest : Rest) (then : List A → Rest) → ((l : List A) → length l ≡ n → then l ≡ rest) →
      Fits (rows n row before rest) (many one next n (least_of before)) then
  unfolding many rows
  many_fits zero before rest then same = rw (← same [] refl) (done_fits then [])
  many_fits (suc n) before rest then same =
      then_fits (each before (λ f. rows n row f rest)) λ a.
      rw (least_own a) (then_fits (many_fits n (own a) rest (λ l. then (a ∷ l)) (λ l e. same (a ∷ l) (ap suc e))) λ l. done_fits then (a ∷ l))

  pub counted_fits : (least most : ℕ) (then : ℕ → Rest) → Fits (counted least most row then) (counted-read least most one next) (λ l. then (length l))
  unfolding counted counted-read
  counted_fits least most then = then_fits (count_fits least most _) λ n. many_fits n none (then n) (λ l. then (length l)) (λ l e. rw e)
