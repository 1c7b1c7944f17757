-- Every reader of reading/specs/Reading.antt fits what specs/Forms.antt says of its bytes: each test of a number says what the document asks of it, and
-- each part is read where it is due. Assumes nothing.
use mathlib.Core.Path.{◌≡◌, refl, ap}
use mathlib.Core.Bool.{Bool}
use mathlib.Core.Logic.{inl, inr, ◌↔◌}
use mathlib.Core.List.{List, [], ◌∷◌, map}
use Prim.Native.Nat.{ℕ, zero, suc, ◌<◌, ◌≤◌}
use native.Mathlib.Omega.{arith}
use lib.ListN.{length}
use borrow.Author.Tests.{ltb-true, lt-ltb}
use Rattle.laws.specs.Tests.{Is}
use Rattle.plan.specs.declared.Track.{Track}
use Rattle.plan.specs.Limits.{least_tracks, most_tracks, most_signals, most_routes, most_entries, least_path, most_path, most_clear, most_points, most_releases}
use Rattle.plan.specs.Kinds.{kinds, uses, limit_of, is_point}
use Rattle.plan.proofs.Says.{point_is}
use Rattle.reading.specs.Reading.{many, number as number_read, counted as counted-read, below, free, above, path_list, rising_list, point_list, track as track_read, track_section, signal_section}
use Rattle.reading.specs.Reading.{release, after_release, release_list, route, route_section, entry, after_entry, entry_section, sections}
use Rattle.reading.proofs.Sound.{number_sound, sound_got}
use Rattle.forms.specs.Forms.{Sort, kind, track, signal, point, Exists, Forerunner, none, after, Rest, nothing, count, counted, any_order, rising}
use Rattle.forms.specs.Forms.{numbers_of, track_row, track_rows, signal_row, release_row, route_row, entry_row, plan_file}
use Rattle.forms.proofs.Fits.{Fits, Gives, least_of, done_fits, known_fits, then_fits, count_fits, number_fits, counted_fits}

-- What a test of the reader says of a number.

below_names : (n b : ℕ) → Is (below n b) ↔ (b < n)
below_names n b = (ltb-true b n, lt-ltb b n)

unused_names : (b : ℕ) → Is (below 1 b) ↔ (b ≡ 0)
unused_names b = (λ e. omega (arith, ltb-true b 1 e), λ e. lt-ltb b 1 (omega arith))

kind_names : (b : ℕ) → Is (below kinds b) ↔ (b ≤ 3)
kind_names b = (λ e. omega (arith, ltb-true b kinds e), λ e. lt-ltb b kinds (omega arith))

abbrev kinds_of : List Track → List ℕ
kinds_of l = map (λ t. t.kind) l

point_names : (l : List Track) (b : ℕ) → Is (is_point l b) ↔ Exists (point (kinds_of l)) b
unfolding is_point
point_names [] b = (λ e. elim ((point_is [] b).0 e) [ inl h ↦ absurd (omega (arith, h)) | inr h ↦ absurd (omega (arith, h)) ], λ h. absurd (omega (arith, h.0)))
point_names (t ∷ l) zero = (λ e. (omega arith, (point_is (t ∷ l) 0).0 e), λ h. (point_is (t ∷ l) 0).1 h.1)
point_names (t ∷ l) (suc b) =
    let same = point_names l b in
    (λ e. (omega (arith, (same.0 e).0), (same.0 e).1), λ h. same.1 (omega (arith, h.0), h.1))

-- Lists of numbers.

module _ (sort : Sort) (fits : ℕ → Bool) (same : (b : ℕ) → Is (fits b) ↔ Exists sort b) where
  any_fits : (least most : ℕ) (then : ℕ → Rest) → Fits (counted least most (any_order sort) then) (counted-read least most (number_read fits) free) (λ l. then (length l))
  unfolding any_order
  any_fits = counted_fits (any_order sort) (number_read fits) free (λ v. none) (λ v. refl) (λ before then. number_fits sort fits same before (λ v. then none))

  rising_fits : (most : ℕ) (then : ℕ → Rest) → Fits (counted 0 most (rising sort) then) (counted-read 0 most (number_read fits) above) (λ l. then (length l))
  unfolding rising
  rising_fits = counted_fits (rising sort) (number_read fits) above (λ v. after v) (λ v. refl) (λ before then. number_fits sort fits same before (λ v. then (after v))) 0

-- 1. Tracks.

first_names : (n k b : ℕ) → k ≤ 3 → Is (below (limit_of n k 0) b) ↔ Exists (numbers_of n k).0 b
unfolding limit_of uses
first_names n zero b h = below_names n b
first_names n (suc zero) b h = below_names n b
first_names n (suc (suc zero)) b h = below_names n b
first_names n (suc (suc (suc zero))) b h = unused_names b
first_names n (suc (suc (suc (suc k)))) b h = absurd (omega arith)

second_names : (n k b : ℕ) → k ≤ 3 → Is (below (limit_of n k 1) b) ↔ Exists (numbers_of n k).1 b
unfolding limit_of uses
second_names n zero b h = unused_names b
second_names n (suc zero) b h = below_names n b
second_names n (suc (suc zero)) b h = below_names n b
second_names n (suc (suc (suc zero))) b h = unused_names b
second_names n (suc (suc (suc (suc k)))) b h = absurd (omega arith)

third_names : (n k b : ℕ) → k ≤ 3 → Is (below (limit_of n k 2) b) ↔ Exists (numbers_of n k).2 b
unfolding limit_of uses
third_names n zero b h = unused_names b
third_names n (suc zero) b h = unused_names b
third_names n (suc (suc zero)) b h = below_names n b
third_names n (suc (suc (suc zero))) b h = unused_names b
third_names n (suc (suc (suc (suc k)))) b h = absurd (omega arith)

-- a kind that was read is one of the four
kind_known : (k : ℕ) → Gives (number_read (below kinds) 0) k → k ≤ 3
kind_known k g = (kind_names k).0 (sound_got (number_sound (below kinds) 0) g.at g.s g.same).0.0

track_fits : (n : ℕ) (then : ℕ → Rest) → Fits (track_row n then) (track_read n) (λ t. then t.kind)
unfolding track_read track_row
track_fits n then =
    known_fits (number_fits kind (below kinds) kind_names none _) λ k g.
    then_fits (number_fits (numbers_of n k).0 (below (limit_of n k 0)) (λ b. first_names n k b (kind_known k g)) none _) λ first.
    then_fits (number_fits (numbers_of n k).1 (below (limit_of n k 1)) (λ b. second_names n k b (kind_known k g)) none _) λ second.
    then_fits (number_fits (numbers_of n k).2 (below (limit_of n k 2)) (λ b. third_names n k b (kind_known k g)) none _) λ third.
    done_fits (λ t. then t.kind) (record { kind = k; first = first; second = second; third = third })

track_rows_fit : (n left : ℕ) (rest : List ℕ → Rest) (then : List Track → Rest) → ((l : List Track) → length l ≡ left → then l ≡ rest (kinds_of l)) →
    Fits (track_rows n left rest) (many (λ least. track_read n) free left 0) then
unfolding many track_rows
track_rows_fit n zero rest then same = rw (← same [] refl) (done_fits then [])
track_rows_fit n (suc left) rest then same =
    then_fits (track_fits n _) λ t.
    then_fits (track_rows_fit n left (λ others. rest (t.kind ∷ others)) (λ l. then (t ∷ l)) (λ l e. same (t ∷ l) (ap suc e))) λ l.
    done_fits then (t ∷ l)

track_section_fits : (rest : ℕ → List ℕ → Rest) → Fits (count least_tracks most_tracks λ n. track_rows n n (rest n)) track_section (λ l. rest (length l) (kinds_of l))
unfolding track_section
track_section_fits rest = then_fits (count_fits least_tracks most_tracks _) λ n. track_rows_fit n n (rest n) _ (λ l e. rw e)

-- 2. Signals.

signal_section_fits : (l : List Track) (then : ℕ → Rest) → Fits (counted 0 most_signals (signal_row (length l)) then) (signal_section l) (λ signals. then (length signals))
unfolding signal_section rising_list signal_row
signal_section_fits l = rising_fits (track (length l)) (below (length l)) (below_names (length l)) most_signals

-- 3. Routes.

module _ (l : List Track) where
  release_fits_lem : (before : Forerunner) (then : Forerunner → Rest) →
      Fits (release_row (length l) (kinds_of l) before then) (release l (least_of before)) (λ r. then (after r.point))
  unfolding release release_row
  release_fits_lem before then =
      then_fits (number_fits (track (length l)) (below (length l)) (below_names (length l)) none _) λ on.
      then_fits (number_fits (point (kinds_of l)) (is_point l) (point_names l) before _) λ released.
      done_fits (λ r. then (after r.point)) (record { track = on; point = released })

  release_list_fits : (then : ℕ → Rest) → Fits (counted 0 most_releases (release_row (length l) (kinds_of l)) then) (release_list l) (λ r. then (length r))
  unfolding release_list
  release_list_fits = counted_fits (release_row (length l) (kinds_of l)) (release l) after_release (λ r. after r.point) (λ r. refl) release_fits_lem 0 most_releases

  route_fits : (signals : ℕ) (before : Forerunner) (then : Forerunner → Rest) → Fits (route_row (length l) (kinds_of l) signals before then) (route l signals) (λ r. then none)
  unfolding route route_row path_list rising_list point_list
  route_fits signals before then =
      then_fits (number_fits (signal signals) (below signals) (below_names signals) none _) λ start.
      then_fits (any_fits (track (length l)) (below (length l)) (below_names (length l)) least_path most_path _) λ path.
      then_fits (rising_fits (track (length l)) (below (length l)) (below_names (length l)) most_clear _) λ clear.
      then_fits (rising_fits (point (kinds_of l)) (is_point l) (point_names l) most_points _) λ normal.
      then_fits (rising_fits (point (kinds_of l)) (is_point l) (point_names l) most_points _) λ reverse.
      then_fits (release_list_fits _) λ releases.
      done_fits (λ r. then none) (record { start = start; path = path; clear = clear; normal = normal; reverse = reverse; releases = releases })

  route_section_fits : (signals : ℕ) (then : ℕ → Rest) → Fits (counted 0 most_routes (route_row (length l) (kinds_of l) signals) then) (route_section l signals) (λ r. then (length r))
  unfolding route_section
  route_section_fits signals =
      counted_fits (route_row (length l) (kinds_of l) signals) (λ least. route l signals) free (λ r. none) (λ r. refl) (route_fits signals) 0 most_routes

-- 4. Entries.

entry_fits : (n : ℕ) (before : Forerunner) (then : Forerunner → Rest) → Fits (entry_row n before then) (entry n (least_of before)) (λ e. then (after e.track))
unfolding entry entry_row rising_list
entry_fits n before then =
    then_fits (number_fits (track n) (below n) (below_names n) before _) λ on.
    then_fits (rising_fits (track n) (below n) (below_names n) most_clear _) λ clear.
    done_fits (λ e. then (after e.track)) (record { track = on; clear = clear })

entry_section_fits : (n : ℕ) (then : ℕ → Rest) → Fits (counted 0 most_entries (entry_row n) then) (entry_section n) (λ e. then (length e))
unfolding entry_section
entry_section_fits n = counted_fits (entry_row n) (entry n) after_entry (λ e. after e.track) (λ e. refl) (entry_fits n) 0 most_entries

pub sections_fit : Fits plan_file sections (λ p. nothing)
unfolding sections plan_file
sections_fit =
    then_fits (track_section_fits _) λ tracks.
    then_fits (signal_section_fits tracks _) λ signals.
    then_fits (route_section_fits tracks (length signals) _) λ routes.
    then_fits (entry_section_fits (length tracks) _) λ entries.
    done_fits (λ p. nothing) (record { tracks = tracks; signals = signals; routes = routes; entries = entries })
