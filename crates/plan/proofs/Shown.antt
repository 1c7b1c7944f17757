-- The image of a plan shows the plan: each list stands in a slot of its own, each thing at a place of its own. Assumes nothing.
use mathlib.Core.Path.{◌≡◌, refl, sym, ap₂, ◌∙◌}
use mathlib.Core.List.{List, [], ◌∷◌, ◌++◌, append_assoc, append-nil}
use Prim.Native.Nat.{ℕ, suc, ◌+◌, ◌*◌, ◌≤◌, ◌-◌}
use native.Mathlib.Nat.{add-zero, mul-zero, mul-suc, min-eq_right, mul-le-mul_left}
use native.Mathlib.Omega.{arith}
use lib.ListN.{length, replicate, length-append, length-replicate}
use lib.Seq.{get_or-append_seam, get_or-append-add, get_or_at, drop_at, take-append_seam}
use Rattle.laws.specs.Lists.{All, joined, all_every, all_map}
use Rattle.laws.specs.Tables.{tab, tab_cong}
use Rattle.plan.specs.declared.Track.{Track}
use Rattle.plan.specs.declared.Release.{Release}
use Rattle.plan.specs.Limits.{most_tracks, most_signals, most_routes, most_entries, most_path, most_clear, most_points, most_releases, track_size, release_size, path_at, clear_at, normal_at, reverse_at, releases_at, route_size, entry_clear_at, entry_size, tracks_at, signals_at, routes_at, entries_at, image_size}
use Rattle.plan.specs.Records.{Route, Entry, Plan}
use Rattle.plan.specs.File.{track_file, release_file, ReadableRoute, ReadableEntry, Readable}
use Rattle.plan.specs.Image.{padded, counted_image, list_image, route_image, entry_image, image_of, count_in, list_in, things_in, track_in, release_in, releases_in, route_in, entry_in, tracks_in, signals_in, plan_of}

-- Sizes.

pub length_padded : (size : ℕ) (bytes : List ℕ) → length bytes ≤ size → length (padded size bytes) ≡ size
unfolding padded
length_padded size bytes h = simp (length-append, length-replicate) (omega arith)

length_list : (most : ℕ) (l : List ℕ) → length l ≤ most → length (list_image most l) ≡ 1 + most
unfolding list_image
length_list most l h = rw (length_padded most l h) (omega arith)

-- A thing of one size that an image shows wherever it stands.
pub record Shows {A : Type 0} (thing : List ℕ → ℕ → A) (size : ℕ) (image : A → List ℕ) (a : A) : Type 0 where
  pub long : length (image a) ≡ size
  pub shown : (before after : List ℕ) → thing (before ++ (image a ++ after)) (length before) ≡ a

module _ {A : Type 0} (thing : List ℕ → ℕ → A) (size : ℕ) (image : A → List ℕ) where
  pub length_joined : (l : List A) → All (Shows thing size image) l → length (joined image l) ≡ size * length l
  unfolding joined All
  length_joined [] s = sym (mul-zero size)
  length_joined (a ∷ l) s = rw (length-append, s.0.long, length_joined l s.1, mul-suc) (omega arith)

  length_counted : (most : ℕ) (l : List A) → All (Shows thing size image) l → length l ≤ most → length (counted_image size most image l) ≡ 1 + size * most
  unfolding counted_image
  length_counted most l s h =
      let fits : size * length l ≤ size * most = mul-le-mul_left size h in
      rw (length_padded (size * most) (joined image l) (rw (length_joined l s) fits)) (omega arith)

  joined_shown : (l : List A) → All (Shows thing size image) l → (before after : List ℕ) → tab (length l) (λ i. thing (before ++ (joined image l ++ after)) (length before + size * i)) ≡ l
  unfolding joined All tab
  joined_shown [] s before after = refl
  joined_shown (a ∷ l) s before after =
      ap₂ ◌∷◌
      (rw (mul-zero, add-zero, append_assoc) (s.0.shown before (joined image l ++ after)))
      (tab_cong (length l) _ _ (λ k h. place k) ∙ joined_shown l s.1 (before ++ image a) after)
    where
      place : (k : ℕ) → thing (before ++ ((image a ++ joined image l) ++ after)) (length before + size * suc k) ≡ thing ((before ++ image a) ++ (joined image l ++ after)) (length (before ++ image a) + size * k)
      place k = let e : length before + size * suc k ≡ length (before ++ image a) + size * k = rw (length-append, s.0.long, mul-suc) (omega arith) in rw e (simp append_assoc)

-- A count, a list and things after their count, at the end of what stands before them.
module _ (image : List ℕ) (at most : ℕ) (before : List ℕ) (long : length before ≡ at) where
  pub count_shown : (n : ℕ) (after : List ℕ) → image ≡ before ++ n ∷ after → n ≤ most → count_in image at most ≡ n
  unfolding count_in
  count_shown n after e h = rw (e, get_or_at before n after 0 at long, min-eq_right h)

  past_count : (n : ℕ) → length (before ++ n ∷ []) ≡ at + 1
  past_count n = rw length-append (omega arith)

  pub list_shown : (l after : List ℕ) → image ≡ before ++ (list_image most l ++ after) → length l ≤ most → list_in image at most ≡ l
  unfolding list_in list_image padded
  list_shown l after e h =
      let zeros : List ℕ = replicate (most - length l) 0 in
      let split : image ≡ (before ++ length l ∷ []) ++ (l ++ (zeros ++ after)) = rw e (simp append_assoc) in
      rw (count_shown (length l) (padded most l ++ after) e h, split, drop_at (before ++ length l ∷ []) (l ++ (zeros ++ after)) (at + 1) (past_count (length l))) (take-append_seam l (zeros ++ after))

  pub things_shown : {A : Type 0} (thing : List ℕ → ℕ → A) (size : ℕ) (own : A → List ℕ) (l : List A) (after : List ℕ) → image ≡ before ++ (counted_image size most own l ++ after) → All (Shows thing size own) l → length l ≤ most → things_in thing size image at most ≡ l
  unfolding things_in counted_image padded
  things_shown thing size own l after e s h =
      let zeros : List ℕ = replicate (size * most - length (joined own l)) 0 in
      let split : image ≡ (before ++ length l ∷ []) ++ (joined own l ++ (zeros ++ after)) = rw e (simp append_assoc) in
      rw (count_shown (length l) (padded (size * most) (joined own l) ++ after) e h, split, ← past_count (length l)) (joined_shown thing size own l s (before ++ length l ∷ []) (zeros ++ after))

-- The things.

pub track_shows : (t : Track) → Shows track_in track_size track_file t
unfolding track_in track_file
track_shows t = record { long = refl; shown = λ before after. rw (get_or-append_seam, get_or-append-add, get_or-append-add, get_or-append-add) }

pub release_shows : (r : Release) → Shows release_in release_size release_file r
unfolding release_in release_file
release_shows r = record { long = refl; shown = λ before after. rw (get_or-append_seam, get_or-append-add) }

-- every list of a route or of an entry within its limit
pub record RouteFits (r : Route) : Type 0 where
  pub path : length r.path ≤ most_path
  pub clear : length r.clear ≤ most_clear
  pub normal : length r.normal ≤ most_points
  pub reverse : length r.reverse ≤ most_points
  pub releases : length r.releases ≤ most_releases

pub record EntryFits (e : Entry) : Type 0 where
  pub clear : length e.clear ≤ most_clear

module _ (r : Route) (f : RouteFits r) where
  path_long : length (list_image most_path r.path) ≡ 1 + most_path
  path_long = length_list most_path r.path f.path

  clear_long : length (list_image most_clear r.clear) ≡ 1 + most_clear
  clear_long = length_list most_clear r.clear f.clear

  normal_long : length (list_image most_points r.normal) ≡ 1 + most_points
  normal_long = length_list most_points r.normal f.normal

  reverse_long : length (list_image most_points r.reverse) ≡ 1 + most_points
  reverse_long = length_list most_points r.reverse f.reverse

  releases_show : All (Shows release_in release_size release_file) r.releases
  releases_show = all_every release_shows r.releases

  releases_long : length (counted_image release_size most_releases release_file r.releases) ≡ 1 + release_size * most_releases
  releases_long = length_counted release_in release_size release_file most_releases r.releases releases_show f.releases

  route_shown : (before after : List ℕ) → route_in (before ++ (route_image r ++ after)) (length before) ≡ r
  unfolding route_in route_image releases_in
  route_shown before after =
      let image : List ℕ = before ++ (route_image r ++ after) in
      let at : ℕ = length before in
      let path : List ℕ = list_image most_path r.path in
      let clear : List ℕ = list_image most_clear r.clear in
      let normal : List ℕ = list_image most_points r.normal in
      let reverse : List ℕ = list_image most_points r.reverse in
      let releases : List ℕ = counted_image release_size most_releases release_file r.releases in
      let to_path : List ℕ = before ++ r.start ∷ [] in
      let long_path : length to_path ≡ at + path_at = simp length-append (omega arith) in
      let to_clear : List ℕ = to_path ++ path in
      let long_clear : length to_clear ≡ at + clear_at = rw length-append (omega (arith, path_long)) in
      let to_normal : List ℕ = to_clear ++ clear in
      let long_normal : length to_normal ≡ at + normal_at = rw length-append (omega (arith, clear_long)) in
      let to_reverse : List ℕ = to_normal ++ normal in
      let long_reverse : length to_reverse ≡ at + reverse_at = rw length-append (omega (arith, normal_long)) in
      let to_releases : List ℕ = to_reverse ++ reverse in
      let long_releases : length to_releases ≡ at + releases_at = rw length-append (omega (arith, reverse_long)) in
      rw (
        get_or-append_seam,
        list_shown image (at + path_at) most_path to_path long_path r.path (clear ++ (normal ++ (reverse ++ (releases ++ after)))) (simp append_assoc) f.path,
        list_shown image (at + clear_at) most_clear to_clear long_clear r.clear (normal ++ (reverse ++ (releases ++ after))) (simp append_assoc) f.clear,
        list_shown image (at + normal_at) most_points to_normal long_normal r.normal (reverse ++ (releases ++ after)) (simp append_assoc) f.normal,
        list_shown image (at + reverse_at) most_points to_reverse long_reverse r.reverse (releases ++ after) (simp append_assoc) f.reverse,
        things_shown image (at + releases_at) most_releases to_releases long_releases release_in release_size release_file r.releases after (simp append_assoc) releases_show f.releases,
      )

  pub route_shows : Shows route_in route_size route_image r
  unfolding route_image
  route_shows = record { long = simp (length-append, path_long, clear_long, normal_long, reverse_long, releases_long); shown = route_shown }

pub entry_shows : (e : Entry) → EntryFits e → Shows entry_in entry_size entry_image e
unfolding entry_in entry_image
entry_shows e f =
    record {
      long = simp (length_list most_clear e.clear f.clear);
      shown = λ before after.
          let at : ℕ = length before + entry_clear_at in
          let long : length (before ++ e.track ∷ []) ≡ at = simp length-append (omega arith) in
          rw (get_or-append_seam, list_shown (before ++ (entry_image e ++ after)) at most_clear (before ++ e.track ∷ []) long e.clear after (simp append_assoc) f.clear);
    }

-- what a readable plan has fits
pub route_fits : (tracks : List Track) (signals : ℕ) (r : Route) → ReadableRoute tracks signals r → RouteFits r
route_fits tracks signals r w =
    record { path = w.path.few; clear = w.clear.few; normal = w.normal.few; reverse = w.reverse.few; releases = w.releases.few }

pub entry_fits : (tracks : ℕ) (e : Entry) → ReadableEntry tracks e → EntryFits e
entry_fits tracks e w = record { clear = w.clear.few }

-- The sections, each in its slot.

abbrev pub track_slot : List Track → List ℕ
track_slot tracks = counted_image track_size most_tracks track_file tracks

abbrev pub signal_slot : List ℕ → List ℕ
signal_slot signals = list_image most_signals signals

abbrev pub route_slot : List Route → List ℕ
route_slot routes = counted_image route_size most_routes route_image routes

abbrev entry_slot : List Entry → List ℕ
entry_slot entries = counted_image entry_size most_entries entry_image entries

-- tracks, whatever follows them; then signals; then routes
module _ (tracks : List Track) (few : length tracks ≤ most_tracks) where
  pub tracks_long : length (track_slot tracks) ≡ signals_at
  tracks_long = length_counted track_in track_size track_file most_tracks tracks (all_every track_shows tracks) few

  pub tracks_shown : (after : List ℕ) → tracks_in (track_slot tracks ++ after) ≡ tracks
  unfolding tracks_in
  tracks_shown after = things_shown _ tracks_at most_tracks [] refl track_in track_size track_file tracks after refl (all_every track_shows tracks) few

  module _ (signals : List ℕ) (few' : length signals ≤ most_signals) where
    pub signals_long : length (track_slot tracks ++ signal_slot signals) ≡ routes_at
    signals_long = rw length-append (omega (arith, tracks_long, length_list most_signals signals few'))

    pub signals_shown : (after : List ℕ) → signals_in (track_slot tracks ++ (signal_slot signals ++ after)) ≡ signals
    unfolding signals_in
    signals_shown after = list_shown _ signals_at most_signals (track_slot tracks) tracks_long signals after refl few'

    pub routes_long : (routes : List Route) → length routes ≤ most_routes → All RouteFits routes → length (track_slot tracks ++ signal_slot signals ++ route_slot routes) ≡ entries_at
    routes_long routes few'' fit =
        let long : length (route_slot routes) ≡ 1 + route_size * most_routes = length_counted route_in route_size route_image most_routes routes (all_map route_shows routes fit) few'' in
        rw length-append (omega (arith, signals_long))

pub plan_shown : (p : Plan) → Readable p → plan_of (image_of p) ≡ p
unfolding plan_of image_of
plan_shown p w =
    let tracks : List ℕ = track_slot p.tracks in
    let signals : List ℕ = signal_slot p.signals in
    let routes : List ℕ = route_slot p.routes in
    let entries : List ℕ = entry_slot p.entries in
    let routes_fit : All RouteFits p.routes = all_map (route_fits p.tracks (length p.signals)) p.routes w.routes.each in
    let entries_fit : All EntryFits p.entries = all_map (entry_fits (length p.tracks)) p.entries w.entries.each in
    rw (
      tracks_shown p.tracks w.tracks.few (signals ++ (routes ++ entries)),
      signals_shown p.tracks w.tracks.few p.signals w.signals.few (routes ++ entries),
      things_shown (image_of p) routes_at most_routes (tracks ++ signals) (signals_long p.tracks w.tracks.few p.signals w.signals.few) route_in route_size route_image p.routes entries (simp append_assoc) (all_map route_shows p.routes routes_fit) w.routes.few,
      things_shown (image_of p) entries_at most_entries (tracks ++ signals ++ routes) (routes_long p.tracks w.tracks.few p.signals w.signals.few p.routes w.routes.few routes_fit) entry_in entry_size entry_image p.entries [] (simp (append_assoc, append-nil)) (all_map entry_shows p.entries entries_fit) w.entries.few,
    )

-- The image of a plan fills the memory that it has.
pub image_long : (p : Plan) → Readable p → length (image_of p) ≡ image_size
unfolding image_of
image_long p w =
    let routes_fit : All RouteFits p.routes = all_map (route_fits p.tracks (length p.signals)) p.routes w.routes.each in
    let entries_fit : All EntryFits p.entries = all_map (entry_fits (length p.tracks)) p.entries w.entries.each in
    let before = routes_long p.tracks w.tracks.few p.signals w.signals.few p.routes w.routes.few routes_fit in
    let last : length (entry_slot p.entries) ≡ 1 + entry_size * most_entries =
    length_counted entry_in entry_size entry_image most_entries p.entries (all_map entry_shows p.entries entries_fit) w.entries.few in
    omega (
      arith,
      last,
      simp length-append at before,
      length-append (track_slot p.tracks) (signal_slot p.signals ++ (route_slot p.routes ++ entry_slot p.entries)),
      length-append (signal_slot p.signals) (route_slot p.routes ++ entry_slot p.entries),
      length-append (route_slot p.routes) (entry_slot p.entries),
    )
