-- How long the file of what an image shows is, for any image: each list is within its limit, and so no sum of lengths is large.
use mathlib.Core.Path.{◌≡◌, refl, sym, ap, ◌∙◌}
use mathlib.Core.Logic.{⊎_elim}
use mathlib.Core.List.{List, [], ◌∷◌, map, map-map}
use Prim.Native.Nat.{ℕ, suc, ◌+◌, ◌*◌, ◌/◌, ◌<◌, ◌≤◌}
use native.Mathlib.Nat.{mul-zero, mul-suc, mul-le-mul_left}
use native.Mathlib.Omega.{arith}
use lib.ListN.{length, get_or, drop, length-append, length-take}
use Rattle.laws.specs.Tests.{below?}
use Rattle.laws.specs.Lists.{joined, all_every}
use Rattle.plan.specs.declared.Track.{Track}
use Rattle.plan.specs.declared.Release.{Release}
use Rattle.plan.specs.Limits.{most_routes, most_entries, most_path, most_clear, most_points, most_releases, track_size, release_size, route_size, entry_size, path_at, clear_at, normal_at, reverse_at, releases_at, routes_at, entry_clear_at, entries_at}
use Rattle.plan.specs.Records.{Route, Entry, Plan, no_route, no_entry, route_of, entry_of}
use Rattle.plan.specs.File.{counted_file, entry_file, file_of, list_file, release_file, route_file, track_file}
use Rattle.plan.specs.Image.{count_in, list_in, track_in, release_in, releases_in, route_in, entry_in, plan_of}
use Rattle.plan.proofs.View.{count_most, things_length, tracks_most, signals_most, routes_most, entries_most, route_beyond, route_at, entry_beyond, entry_at}
use Rattle.plan.proofs.Shown.{RouteFits, EntryFits, length_joined, track_shows, release_shows}
use Rattle.std.specs.Prelude.{sum}
use Rattle.std.specs.List.{range_with_len, sum_by}
use Rattle.std.proofs.lemmas.List.Sums.{sum_by-cons, sum-map}
use Rattle.std.proofs.lemmas.List.FromFn.{fill_by_all}

-- What an image shows is within its limits: a list of it, a route, an entry.

list_most : (image : List ℕ) (at most : ℕ) → length (list_in image at most) ≤ most
unfolding list_in
list_most image at most = rw (length-take (count_in image at most) (drop (at + 1) image)) (omega (arith, count_most image at most))

pub route_fits : (image : List ℕ) (r : ℕ) → RouteFits (route_of (plan_of image) r)
unfolding route_in releases_in
route_fits image r = ⊎_elim (λ h. rw (← route_at image r h) shown) (λ h. rw (← route_beyond image r h) none) (below? r (length (plan_of image).routes))
  where
    base : ℕ
    base = routes_at + 1 + route_size * r

    shown : RouteFits (route_in image base)
    shown = record {
      path = list_most image (base + path_at) most_path;
      clear = list_most image (base + clear_at) most_clear;
      normal = list_most image (base + normal_at) most_points;
      reverse = list_most image (base + reverse_at) most_points;
      releases = rw (things_length release_in release_size image (base + releases_at) most_releases) (count_most image (base + releases_at) most_releases);
    }

    none : RouteFits no_route
    none = record { path = omega arith; clear = omega arith; normal = omega arith; reverse = omega arith; releases = omega arith }

pub entry_fits : (image : List ℕ) (e : ℕ) → EntryFits (entry_of (plan_of image) e)
unfolding entry_in
entry_fits image e = ⊎_elim (λ h. rw (← entry_at image e h) shown) (λ h. rw (← entry_beyond image e h) none) (below? e (length (plan_of image).entries))
  where
    shown : EntryFits (entry_in image (entries_at + 1 + entry_size * e))
    shown = record { clear = list_most image (entries_at + 1 + entry_size * e + entry_clear_at) most_clear }

    none : EntryFits no_entry
    none = record { clear = omega arith }

-- Things that are each of at most so many bytes.
module _ {A : Type 0} (file : A → List ℕ) (size : ℕ) (d : A) where
  joined_most : (l : List A) → ((i : ℕ) → length (file (get_or l i d)) ≤ size) → length (joined file l) ≤ size * length l
  unfolding joined
  joined_most [] h = rw mul-zero (omega arith)
  joined_most (a ∷ l) h = rw (length-append, mul-suc) (omega (arith, h 0, joined_most l (λ i. h (suc i))))

  things_most : (l : List A) (most : ℕ) → ((i : ℕ) → length (file (get_or l i d)) ≤ size) → length l ≤ most → length (joined file l) ≤ size * most
  things_most l most h few = let m : size * length l ≤ size * most = mul-le-mul_left size few in omega (arith, joined_most l h)

-- Rows, as they stand, of tracks and of releases.

pub tracks_long : (l : List Track) → length (joined track_file l) ≡ track_size * length l
tracks_long l = length_joined track_in track_size track_file l (all_every track_shows l)

pub releases_long : (l : List Release) → length (joined release_file l) ≡ release_size * length l
releases_long l = length_joined release_in release_size release_file l (all_every release_shows l)

-- how many releases there are
pub release_count : (l : List Release) {rows : List ℕ} → rows ≡ joined release_file l → length rows / release_size ≡ length l
release_count l e = omega (arith, ap length e, releases_long l)

-- A route, an entry, a plan, each by the lengths of what it has.

pub route_long : (r : Route) {path clear normal reverse releases : List ℕ} → path ≡ r.path → clear ≡ r.clear → normal ≡ r.normal → reverse ≡ r.reverse
    → releases ≡ joined release_file r.releases → 6 + (length path + length clear) + (length normal + length reverse) + length releases ≡ length (route_file r)
unfolding route_file list_file counted_file
route_long r p c n v s = rw (p, c, n, v, s) (simp length-append (omega arith))

pub entry_long : (e : Entry) {clear : List ℕ} → clear ≡ e.clear → 2 + length clear ≡ length (entry_file e)
unfolding entry_file list_file
entry_long e c = rw c (omega arith)

pub plan_long : (p : Plan) {tracks signals routes entries : ℕ} → tracks ≡ length p.tracks → signals ≡ length p.signals → routes ≡ length (joined route_file p.routes)
    → entries ≡ length (joined entry_file p.entries) → 4 + (track_size * tracks + signals) + routes + entries ≡ length (file_of p)
unfolding file_of list_file counted_file
plan_long p t s r e = simp length-append (omega (arith, tracks_long p.tracks))

pub plan_lengths : (p : Plan) → length (counted_file track_file p.tracks) + (length (list_file p.signals) + (length (counted_file route_file p.routes) + length (counted_file entry_file p.entries))) ≡ length (file_of p)
unfolding file_of
plan_lengths p = simp length-append

-- What an image shows is no longer than its record, and the sections no longer than their records are.

pub route_most : (image : List ℕ) (r : ℕ) → length (route_file (route_of (plan_of image) r)) ≤ route_size
route_most image r =
    let p = route_of (plan_of image) r in
    let f = route_fits image r in
    omega (arith, route_long p refl refl refl refl refl, releases_long p.releases, f.path)

pub entry_most : (image : List ℕ) (e : ℕ) → length (entry_file (entry_of (plan_of image) e)) ≤ entry_size
entry_most image e = omega (arith, entry_long (entry_of (plan_of image) e) refl, (entry_fits image e).clear)

pub routes_long_most : (image : List ℕ) → length (joined route_file (plan_of image).routes) ≤ route_size * most_routes
unfolding route_of
routes_long_most image = things_most route_file route_size no_route (plan_of image).routes most_routes (route_most image) (routes_most image)

pub entries_long_most : (image : List ℕ) → length (joined entry_file (plan_of image).entries) ≤ entry_size * most_entries
unfolding entry_of
entries_long_most image = things_most entry_file entry_size no_entry (plan_of image).entries most_entries (entry_most image) (entries_most image)

-- the lists of a route and of an entry each have a count of one byte
pub route_lists : (image : List ℕ) (r : ℕ) → (length (route_of (plan_of image) r).path < 256) × (length (route_of (plan_of image) r).clear < 256) × (length (route_of (plan_of image) r).normal < 256)
    × (length (route_of (plan_of image) r).reverse < 256) × (length (route_of (plan_of image) r).releases < 256)
route_lists image r = let f = route_fits image r in (omega (arith, f.path), omega (arith, f.clear), omega (arith, f.normal), omega (arith, f.reverse), omega (arith, f.releases))

pub entry_list : (image : List ℕ) (e : ℕ) → length (entry_of (plan_of image) e).clear < 256
entry_list image e = omega (arith, (entry_fits image e).clear)

pub route_lengths : (r : Route) → 6 + (length r.path + length r.clear) + (length r.normal + length r.reverse) + length (joined release_file r.releases) ≡ length (route_file r)
route_lengths r = route_long r refl refl refl refl refl

-- Things one after another are as long as they are together, and so are they by their numbers.
module _ {A : Type 0} (file : A → List ℕ) where
  joined_sum : (l : List A) → sum_by (λ a. length (file a)) l ≡ length (joined file l)
  unfolding joined
  joined_sum [] = refl
  joined_sum (a ∷ l) = sum_by-cons (λ b. length (file b)) a l ∙ omega (arith, joined_sum l, length-append (file a) (joined file l))

  pub files_sum : (d : A) (all : List A) {n : ℕ} → n ≡ length all → sum (map (λ i. length (file (get_or all i d))) (range_with_len 0 n)) ≡ length (joined file all)
  files_sum d all {n} e =
      let long : A → ℕ = λ a. length (file a) in
      let at : ℕ → A = λ i. get_or all i d in
      let numbers = range_with_len 0 n in
      let whole : all ≡ map at numbers = fill_by_all at all n d (sym e) (λ k h. refl) in
      ap sum (sym (map-map long at numbers)) ∙ sum-map long (map at numbers) ∙ ap (sum_by long) (sym whole) ∙ joined_sum all

-- What the code of a plan, of an entry and of a route goes by.

pub ruleset plan_most = (tracks_most, signals_most, routes_most, entries_most, routes_long_most, entries_long_most)

pub ruleset entry_shown = (entry_list, entry_long)

pub ruleset route_shown = (route_lists, route_lengths, releases_long)
