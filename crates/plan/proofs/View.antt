-- What an image shows of its plan, at the offsets that the code computes. Assumes nothing.
use mathlib.Core.Bool.{Bool}
use mathlib.Core.Path.{◌≡◌, refl, sym, ap, ◌∙◌}
use mathlib.Core.Logic.{◌⊎◌, inl, inr, ⊎_elim}
use mathlib.Core.List.{List, []}
use Prim.Native.Nat.{ℕ, zero, suc, ◌+◌, ◌*◌, ◌<◌, ◌≤◌, ◌-◌}
use native.Mathlib.Nat.{min-le_left, mul-zero, mul-suc, mul-le-mul_left}
use native.Mathlib.Omega.{arith}
use lib.ListN.{length, get_or, take, drop, length-take, get_or-eq_default}
use lib.Seq.{drop-cons, drop-drop, take-add}
use lib.Dec.{ltb}
use native.Mathlib.Numerals.{add-one}
use borrow.Author.Tests.{lt-ltb, le-ltb, ltb-true, ltb-false}
use Rattle.laws.specs.Tests.{split}
use Rattle.laws.specs.Tables.{tab, length_tab, get_or_tab, tab_cong}
use Rattle.laws.specs.Lists.{joined}
use Rattle.plan.specs.declared.Track.{Track}
use Rattle.plan.specs.Limits.{most_tracks, most_signals, most_routes, most_entries, most_path, most_clear, most_points, most_releases, path_at, clear_at, normal_at, reverse_at, releases_at, entry_clear_at, track_size, release_size, route_size, entry_size, tracks_at, signals_at, routes_at, entries_at, image_size}
use Rattle.plan.specs.Kinds.{point, is_point, no_track}
use Rattle.plan.specs.Records.{Plan, Route, Entry, no_route, no_entry, track_of, route_of, entry_of}
use Rattle.plan.specs.File.{track_file, release_file}
use Rattle.plan.specs.Image.{count_in, list_in, things_in, track_in, release_in, releases_in, route_in, entry_in, tracks_in, signals_in, plan_of, route_list}

-- A count, and its limit.
module _ (image : List ℕ) (at most : ℕ) where
  pub count_most : count_in image at most ≤ most
  unfolding count_in
  count_most = min-le_left most (get_or image at 0)

-- Things of one size after their count.
module _ {A : Type 0} (thing : List ℕ → ℕ → A) (size : ℕ) (image : List ℕ) (at most : ℕ) where
  pub things_length : length (things_in thing size image at most) ≡ count_in image at most
  unfolding things_in
  things_length = length_tab (count_in image at most) (λ i. thing image (at + 1 + size * i))

  pub things_at : (i : ℕ) (none : A) → i < count_in image at most → get_or (things_in thing size image at most) i none ≡ thing image (at + 1 + size * i)
  unfolding things_in
  things_at i none h = get_or_tab (count_in image at most) (λ i. thing image (at + 1 + size * i)) i none h

-- Rows of one size, as they stand, are the files of what the image shows there, where that is so of one row.
module _ {A : Type 0} (thing : List ℕ → ℕ → A) (size : ℕ) (file : A → List ℕ) (image : List ℕ)
    (one : (base : ℕ) → base + size ≤ length image → take size (drop base image) ≡ file (thing image base)) where
  rows : (n base : ℕ) → base + size * n ≤ length image → take (size * n) (drop base image) ≡ joined file (tab n (λ i. thing image (base + size * i)))
  unfolding joined tab
  rows zero base h = rw mul-zero
  rows (suc n) base h =
      let e : size * suc n ≡ size + size * n = mul-suc size n ∙ omega arith in
      let z : base + size * 0 ≡ base = rw mul-zero (omega arith) in
      let t : tab n (λ k. thing image (base + size * suc k)) ≡ tab n (λ k. thing image (base + size + size * k)) =
      tab_cong n _ _ (λ k hk. ap (thing image) (rw mul-suc (omega arith))) in
      rw (e, take-add, one base (omega arith), drop-drop, rows n (base + size) (omega arith), t, z)

  pub rows_part : (at most : ℕ) {n : ℕ} → at + 1 + size * most ≤ length image → n ≡ count_in image at most
      → take (at + 1 + size * n - (at + 1)) (drop (at + 1) image) ≡ joined file (things_in thing size image at most)
  unfolding things_in
  rows_part at most {n} h e =
      let z : at + 1 + size * n - (at + 1) ≡ size * n = omega arith in
      let m : size * count_in image at most ≤ size * most = mul-le-mul_left size (count_most image at most) in
      rw (z, e) (rows (count_in image at most) (at + 1) (omega arith))

release_row_lem : (image : List ℕ) (base : ℕ) → base + release_size ≤ length image → take release_size (drop base image) ≡ release_file (release_in image base)
unfolding release_file release_in
release_row_lem image base h = rw (drop-cons image base 0 (omega arith), drop-cons image (suc base) 0 (omega arith), ← add-one base)

track_row_lem : (image : List ℕ) (base : ℕ) → base + track_size ≤ length image → take track_size (drop base image) ≡ track_file (track_in image base)
unfolding track_file track_in
track_row_lem image base h =
    let one : base + 1 ≡ suc base = omega arith in
    let two : base + 2 ≡ suc (suc base) = omega arith in
    let three : base + 3 ≡ suc (suc (suc base)) = omega arith in
    rw (
      one,
      two,
      three,
      drop-cons image base 0 (omega arith),
      drop-cons image (suc base) 0 (omega arith),
      drop-cons image (suc (suc base)) 0 (omega arith),
      drop-cons image (suc (suc (suc base))) 0 (omega arith),
    )

pub pairs_part : (image : List ℕ) (at most : ℕ) {n : ℕ} → length image ≡ image_size → at + 1 + release_size * most ≤ image_size → n ≡ count_in image at most
    → take (at + 1 + release_size * n - (at + 1)) (drop (at + 1) image) ≡ joined release_file (releases_in image at most)
unfolding releases_in
pairs_part image at most l h e = rows_part release_in release_size release_file image (release_row_lem image) at most (omega arith) e

pub tracks_part : (image : List ℕ) {n : ℕ} → length image ≡ image_size → n ≡ count_in image tracks_at most_tracks
    → take (tracks_at + 1 + track_size * n - (tracks_at + 1)) (drop (tracks_at + 1) image) ≡ joined track_file (plan_of image).tracks
unfolding plan_of tracks_in
tracks_part image l e = rows_part track_in track_size track_file image (track_row_lem image) tracks_at most_tracks (omega arith) e

-- How many of each.
module _ (image : List ℕ) where
  pub tracks_count : count_in image tracks_at most_tracks ≡ length (plan_of image).tracks
  unfolding plan_of tracks_in
  tracks_count = sym (things_length track_in track_size image tracks_at most_tracks)

  pub routes_count : count_in image routes_at most_routes ≡ length (plan_of image).routes
  unfolding plan_of
  routes_count = sym (things_length route_in route_size image routes_at most_routes)

  pub entries_count : count_in image entries_at most_entries ≡ length (plan_of image).entries
  unfolding plan_of
  entries_count = sym (things_length entry_in entry_size image entries_at most_entries)

  pub homes_list : list_in image signals_at most_signals ≡ (plan_of image).signals
  unfolding plan_of signals_in
  homes_list = refl

  pub tracks_most : length (plan_of image).tracks ≤ most_tracks
  tracks_most = rw (← tracks_count) (count_most image tracks_at most_tracks)

  pub routes_most : length (plan_of image).routes ≤ most_routes
  routes_most = rw (← routes_count) (count_most image routes_at most_routes)

  pub entries_most : length (plan_of image).entries ≤ most_entries
  entries_most = rw (← entries_count) (count_most image entries_at most_entries)

-- A track, a route, an entry: what stands at its offset, and none beyond the count.
module _ (image : List ℕ) (i : ℕ) where
  pub track_beyond : length (plan_of image).tracks ≤ i → no_track ≡ track_of (plan_of image) i
  unfolding track_of
  track_beyond h = sym (get_or-eq_default (plan_of image).tracks no_track h)

  pub track_at_lem : i < length (plan_of image).tracks → track_in image (tracks_at + 1 + track_size * i) ≡ track_of (plan_of image) i
  unfolding track_of plan_of tracks_in
  track_at_lem h = sym (things_at track_in track_size image tracks_at most_tracks i no_track (rw tracks_count h))

  pub route_beyond : length (plan_of image).routes ≤ i → no_route ≡ route_of (plan_of image) i
  unfolding route_of
  route_beyond h = sym (get_or-eq_default (plan_of image).routes no_route h)

  pub route_at : i < length (plan_of image).routes → route_in image (routes_at + 1 + route_size * i) ≡ route_of (plan_of image) i
  unfolding route_of plan_of
  route_at h = sym (things_at route_in route_size image routes_at most_routes i no_route (rw routes_count h))

  pub entry_beyond : length (plan_of image).entries ≤ i → no_entry ≡ entry_of (plan_of image) i
  unfolding entry_of
  entry_beyond h = sym (get_or-eq_default (plan_of image).entries no_entry h)

  pub entry_at : i < length (plan_of image).entries → entry_in image (entries_at + 1 + entry_size * i) ≡ entry_of (plan_of image) i
  unfolding entry_of plan_of
  entry_at h = sym (things_at entry_in entry_size image entries_at most_entries i no_entry (rw entries_count h))

-- A list of a route's record.
module _ (image : List ℕ) (r at most : ℕ) where
  pub route_list_none : length (plan_of image).routes ≤ r → route_list image r at most ≡ []
  unfolding route_list
  route_list_none h = rw (routes_count, le-ltb r (length (plan_of image).routes) h)

  pub route_list_at : r < length (plan_of image).routes → route_list image r at most ≡ list_in image (routes_at + 1 + route_size * r + at) most
  unfolding route_list
  route_list_at h = rw (routes_count, lt-ltb r (length (plan_of image).routes) h)

-- a list of the route, where the record of every route that there is has it at that offset
pub route_list_lem : (image : List ℕ) (r at most : ℕ) (pick : Route → List ℕ) → pick no_route ≡ [] → ((base : ℕ) → pick (route_in image base) ≡ list_in image (base + at) most)
    → route_list image r at most ≡ pick (route_of (plan_of image) r)
route_list_lem image r at most pick e f = ⊎_elim (λ h. route_list_at image r at most h ∙ sym (f (routes_at + 1 + route_size * r)) ∙ ap pick (route_at image r h))
    (λ h. route_list_none image r at most h ∙ sym e ∙ ap pick (route_beyond image r h)) (decide r (length (plan_of image).routes))
  where
    decide : (i n : ℕ) → (i < n) ⊎ (n ≤ i)
    decide i n = elim (split (ltb i n)) [ inl w ↦ inl (ltb-true i n w) | inr w ↦ inr (ltb-false i n w) ]

-- The lists of a route and of an entry, each at its offset; beyond the count there is none.
module _ (image : List ℕ) (r : ℕ) where
  pub path_shown : route_list image r path_at most_path ≡ (route_of (plan_of image) r).path
  unfolding route_in
  path_shown = route_list_lem image r path_at most_path (λ (route : Route). route.path) refl (λ base. refl)

  pub clear_shown : route_list image r clear_at most_clear ≡ (route_of (plan_of image) r).clear
  unfolding route_in
  clear_shown = route_list_lem image r clear_at most_clear (λ (route : Route). route.clear) refl (λ base. refl)

  pub normal_shown : route_list image r normal_at most_points ≡ (route_of (plan_of image) r).normal
  unfolding route_in
  normal_shown = route_list_lem image r normal_at most_points (λ (route : Route). route.normal) refl (λ base. refl)

  pub reverse_shown : route_list image r reverse_at most_points ≡ (route_of (plan_of image) r).reverse
  unfolding route_in
  reverse_shown = route_list_lem image r reverse_at most_points (λ (route : Route). route.reverse) refl (λ base. refl)

  pub releases_shown : r < length (plan_of image).routes
      → joined release_file (releases_in image (routes_at + 1 + route_size * r + releases_at) most_releases) ≡ joined release_file (route_of (plan_of image) r).releases
  unfolding route_in
  releases_shown h = ap (λ (route : Route). joined release_file route.releases) (route_at image r h)

  pub releases_none : length (plan_of image).routes ≤ r → [] ≡ joined release_file (route_of (plan_of image) r).releases
  unfolding joined
  releases_none h = ap (λ (route : Route). joined release_file route.releases) (route_beyond image r h)

  pub entry_shown : r < length (plan_of image).entries
      → list_in image (entries_at + 1 + entry_size * r + entry_clear_at) most_clear ≡ (entry_of (plan_of image) r).clear
  unfolding entry_in
  entry_shown h = ap (λ (entry : Entry). entry.clear) (entry_at image r h)

-- A point is named by its track.
pub point_named : (p : Plan) (u : ℕ) {t : Track} {b : Bool} → t ≡ track_of p u → b ≡ point t → b ≡ is_point p.tracks u
unfolding track_of is_point
point_named p u e h = h ∙ rw e

-- The plan in memory has no more signals than there may be.
pub signals_most : (image : List ℕ) → length (plan_of image).signals ≤ most_signals
unfolding plan_of signals_in list_in
signals_most image = rw (length-take (count_in image signals_at most_signals) (drop (signals_at + 1) image)) (omega (arith, count_most image signals_at most_signals))

-- What the functions of src/image.rt are proved by.
pub ruleset shown = (count_most, pairs_part, tracks_part, tracks_count, routes_count, entries_count, homes_list, tracks_most, routes_most, entries_most, track_beyond, track_at_lem, route_beyond, route_at, entry_beyond, entry_at, route_list_none, route_list_at, path_shown, clear_shown, normal_shown, reverse_shown, releases_shown, releases_none, entry_shown, point_named)
