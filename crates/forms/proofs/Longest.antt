-- The largest file: reading bounds the file of every readable plan, and the plan that has as much of everything as it may meets the bound.
use mathlib.Core.Path.{◌≡◌, refl, sym}
use mathlib.Core.List.{List, ◌∷◌, ◌++◌, map}
use Prim.Native.Nat.{ℕ, zero, suc, ◌+◌, ◌*◌, ◌<◌, ◌≤◌}
use native.Mathlib.Omega.{arith}
use native.Mathlib.Nat.{zero-mul, suc-mul, add_comm}
use lib.ListN.{length, length-append}
use Rattle.laws.specs.Tests.{Is}
use Rattle.laws.specs.Lists.{All, joined}
use Rattle.laws.specs.Tables.{tab, length_tab, get_or_tab}
use Rattle.plan.specs.declared.Track.{Track}
use Rattle.plan.specs.declared.Release.{Release}
use Rattle.plan.specs.Limits.{least_tracks, most_tracks, most_signals, most_routes, most_entries, least_path, most_path, most_clear, most_points, most_releases, track_size, release_size, route_size, entry_size, image_size}
use Rattle.plan.specs.Kinds.{facing_kind, uses, limit_of, forks, point, is_point}
use Rattle.plan.specs.Records.{Route, Entry, Plan}
use Rattle.plan.specs.File.{track_file, release_file, counted_file, list_file, route_file, entry_file, file_of, Rises, Within}
use Rattle.plan.specs.File.{ReadableRelease, ReadableRoute, ReadableEntry, Readable}
use Rattle.reading.proofs.Meaning.{readable_fits}
use Rattle.forms.specs.Shown.{Longest}

-- The plan: facing points alone, and every list as long as it may be, of the lowest numbers.

abbrev up_to : ℕ → List ℕ
up_to n = tab n (λ i. i)

abbrev facing : Track
facing = record { kind = facing_kind; first = 0; second = 1; third = 0 }

abbrev release : ℕ → Release
release i = record { track = 0; point = i }

abbrev route : Route
route = record { start = 0; path = up_to most_path; clear = up_to most_clear; normal = up_to most_points; reverse = up_to most_points; releases = tab most_releases release }

abbrev entry : ℕ → Entry
entry i = record { track = i; clear = up_to most_clear }

abbrev largest : Plan
largest = record { tracks = tab most_tracks (λ i. facing); signals = up_to most_signals; routes = tab most_routes (λ i. route); entries = tab most_entries entry }

-- It is readable.

all_tab : {A : Type 0} (ok : A → Type 0) (n : ℕ) (f : ℕ → A) → ((i : ℕ) → i < n → ok (f i)) → All ok (tab n f)
unfolding All tab
all_tab ok zero f h = tt
all_tab ok (suc n) f h = (h 0 (omega arith), all_tab ok n (λ k. f (suc k)) (λ i g. h (suc i) (omega arith)))

within_tab : {A : Type 0} {ok : A → Type 0} (least n : ℕ) (f : ℕ → A) → least ≤ n → ((i : ℕ) → i < n → ok (f i)) → Within least n ok (tab n f)
within_tab {ok} least n f h each = record { enough = rw (length_tab n f) h; few = rw (length_tab n f) (omega arith); each = all_tab ok n f each }

up_rises : (n : ℕ) → Rises (up_to n)
up_rises n i h =
    let g : i + 1 < n = rw (length_tab n (λ i. i)) at h in
    rw (get_or_tab n (λ i. i) i 0 (omega arith), get_or_tab n (λ i. i) (i + 1) 0 g) (omega arith)

map_tab : {A : Type 0} (g : A → ℕ) (n : ℕ) (f : ℕ → A) → map g (tab n f) ≡ tab n (λ i. g (f i))
unfolding tab
map_tab g zero f = refl
map_tab g (suc n) f = rw (map_tab g n (λ k. f (suc k)))

up_within : (least n tracks : ℕ) → least ≤ n → n ≤ tracks → Within least n (λ u. u < tracks) (up_to n)
up_within least n tracks h g = within_tab least n (λ i. i) h (λ i k. omega arith)

tracks_long : length largest.tracks ≡ most_tracks
tracks_long = length_tab most_tracks (λ i. facing)

all_points : (i : ℕ) → i < most_tracks → Is (is_point largest.tracks i)
unfolding is_point point forks
all_points i h = rw (get_or_tab most_tracks (λ i. facing) i _ h)

release_readable : (i : ℕ) → i < most_releases → ReadableRelease largest.tracks (release i)
release_readable i h = record { track = rw tracks_long (omega arith); point = all_points i (omega arith) }

route_readable : ReadableRoute largest.tracks (length largest.signals) route
route_readable = record {
  start = rw (length_tab most_signals (λ i. i)) (omega arith);
  path = rw tracks_long (up_within least_path most_path most_tracks (omega arith) (omega arith));
  clear = rw tracks_long (up_within 0 most_clear most_tracks (omega arith) (omega arith));
  clear_rises = up_rises most_clear;
  normal = within_tab 0 most_points (λ i. i) (omega arith) (λ i h. all_points i (omega arith));
  normal_rises = up_rises most_points;
  reverse = within_tab 0 most_points (λ i. i) (omega arith) (λ i h. all_points i (omega arith));
  reverse_rises = up_rises most_points;
  releases = within_tab 0 most_releases release (omega arith) release_readable;
  releases_rise = rw (map_tab (λ q. q.point) most_releases release) (up_rises most_releases);
}

entry_readable : (i : ℕ) → i < most_entries → ReadableEntry (length largest.tracks) (entry i)
entry_readable i h = rw tracks_long (record { track = omega arith; clear = up_within 0 most_clear most_tracks (omega arith) (omega arith); clear_rises = up_rises most_clear })

largest_readable : Readable largest
unfolding limit_of uses
largest_readable = record {
  tracks = rw tracks_long (within_tab least_tracks most_tracks (λ i. facing) (omega arith) (λ i h. record { kind = omega arith; first = omega arith; second = omega arith; third = omega arith }));
  signals = rw tracks_long (up_within 0 most_signals most_tracks (omega arith) (omega arith));
  signals_rise = up_rises most_signals;
  routes = within_tab 0 most_routes (λ i. route) (omega arith) (λ i h. route_readable);
  entries = within_tab 0 most_entries entry (omega arith) entry_readable;
  entries_rise = rw (map_tab (λ e. e.track) most_entries entry) (up_rises most_entries);
}

-- Its file is as long as the bound: each part is as long as it may be.

record Long (l : List ℕ) (n : ℕ) : Type 0 where
  long : length l ≡ n

cons_long : {b : ℕ} {l : List ℕ} {n : ℕ} → Long l n → Long (b ∷ l) (1 + n)
cons_long w = record { long = rw w.long (omega arith) }

both_long : {l r : List ℕ} {m n : ℕ} → Long l m → Long r n → Long (l ++ r) (m + n)
both_long w v = record { long = rw (length-append, w.long, v.long) }

list_long : (n : ℕ) → Long (list_file (up_to n)) (1 + n)
unfolding list_file
list_long n = cons_long (record { long = length_tab n (λ i. i) })

module _ {A : Type 0} (file : A → List ℕ) (size : ℕ) where
  joined_long : (n : ℕ) (f : ℕ → A) → ((i : ℕ) → Long (file (f i)) size) → Long (joined file (tab n f)) (n * size)
  unfolding joined tab
  joined_long zero f h = record { long = sym (zero-mul size) }
  joined_long (suc n) f h = rw (suc-mul, add_comm) (both_long (h 0) (joined_long n (λ k. f (suc k)) (λ i. h (suc i))))

  counted_long : (n : ℕ) (f : ℕ → A) → ((i : ℕ) → Long (file (f i)) size) → Long (counted_file file (tab n f)) (1 + n * size)
  unfolding counted_file
  counted_long n f h = cons_long (joined_long n f h)

track_long : Long (track_file facing) track_size
unfolding track_file
track_long = record { long = refl }

release_long : (i : ℕ) → Long (release_file (release i)) release_size
unfolding release_file
release_long i = record { long = refl }

route_long : Long (route_file route) route_size
unfolding route_file
route_long =
    cons_long (both_long (list_long most_path)
    (both_long (list_long most_clear)
    (both_long (list_long most_points)
    (both_long (list_long most_points)
    (counted_long release_file release_size most_releases release release_long)))))

entry_long : (i : ℕ) → Long (entry_file (entry i)) entry_size
unfolding entry_file
entry_long i = cons_long (list_long most_clear)

largest_long : Long (file_of largest) image_size
unfolding file_of
largest_long =
    both_long (counted_long track_file track_size most_tracks (λ i. facing) (λ i. track_long))
    (both_long (list_long most_signals)
    (both_long (counted_long route_file route_size most_routes (λ i. route) (λ i. route_long))
    (counted_long entry_file entry_size most_entries entry entry_long)))

pub longest : Longest
longest = record { most = readable_fits; reached = (largest, largest_readable, largest_long.long) }
