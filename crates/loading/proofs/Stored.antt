-- The image as reading stores it, section by section, up to the plan's image. Assumes nothing.
use mathlib.Core.Path.{◌≡◌, refl, ◌∙◌}
use mathlib.Core.List.{List, [], ◌++◌, append_assoc, append-nil}
use Prim.Native.Nat.{ℕ, ◌-◌, ◌≤◌}
use native.Mathlib.Omega.{arith}
use lib.ListN.{length, drop}
use Rattle.laws.specs.Lists.{All, all_every, all_map}
use Rattle.plan.specs.declared.Track.{Track}
use Rattle.plan.specs.Limits.{most_tracks, most_signals, most_routes, most_entries, track_size, tracks_at, signals_at, routes_at, entries_at, image_size}
use Rattle.plan.specs.Records.{Route, Entry}
use Rattle.plan.specs.File.{track_file, counted_file, list_file, route_file, entry_file, Within, ReadableRoute, ReadableEntry}
use Rattle.plan.specs.Image.{route_image, entry_image, image_of, track_in}
use Rattle.plan.proofs.Shown.{RouteFits, track_shows, route_fits, entry_fits, track_slot, signal_slot, route_slot, tracks_long, signals_long, routes_long}
use Rattle.loading.specs.Storing.{copy_list, route_part, entry_part, copy_routes, copy_entries, ListRoom, RoutesRoom, EntriesRoom}
use Rattle.loading.proofs.Filling.{zeros, zeros_none, Filled, Copied, list_part, numbers_copied, things_copied, route_copied, entry_copied, Copies, counted_room, counted_fills}

-- The image before the first section, and after each but the last.

unfoldable pub empty_image : List ℕ
empty_image = zeros image_size

unfoldable pub with_tracks : List Track → List ℕ
with_tracks tracks = track_slot tracks ++ zeros (image_size - signals_at)

unfoldable pub with_signals : List Track → List ℕ → List ℕ
with_signals tracks signals = track_slot tracks ++ (signal_slot signals ++ zeros (image_size - routes_at))

unfoldable pub with_routes : List Track → List ℕ → List Route → List ℕ
with_routes tracks signals routes = track_slot tracks ++ (signal_slot signals ++ (route_slot routes ++ zeros (image_size - entries_at)))

-- 1. Tracks.
module _ (tracks : List Track) (few : length tracks ≤ most_tracks) (file : List ℕ) (at : ℕ) (rest : List ℕ) (here : drop at file ≡ counted_file track_file tracks ++ rest) where
  tracks_copied : Copied (list_part track_size most_tracks) (track_slot tracks) file at rest
  tracks_copied = things_copied track_in track_size most_tracks track_file tracks file at rest here (all_every track_shows tracks) few

  pub tracks_room : ListRoom track_size file at tracks_at
  tracks_room = tracks_copied.has_room tracks_at (omega arith)

  pub tracks_stored : copy_list track_size file at tracks_at empty_image ≡ with_tracks tracks
  unfolding empty_image with_tracks
  tracks_stored = (tracks_copied.fills tracks_at signals_at [] (zeros image_size) refl (omega arith) (record { long = refl; whole = refl })).whole

-- 2. Signals.
module _ (signals : List ℕ) (few : length signals ≤ most_signals) (file : List ℕ) (at : ℕ) (rest : List ℕ) (here : drop at file ≡ list_file signals ++ rest) where
  signals_copied : Copied (list_part 1 most_signals) (signal_slot signals) file at rest
  signals_copied = numbers_copied most_signals signals file at rest here few

  pub signals_room : ListRoom 1 file at signals_at
  signals_room = signals_copied.has_room signals_at (omega arith)

  pub signals_stored : (tracks : List Track) → length tracks ≤ most_tracks → copy_list 1 file at signals_at (with_tracks tracks) ≡ with_signals tracks signals
  unfolding with_tracks with_signals
  signals_stored tracks few' =
      let before : Filled signals_at (track_slot tracks) (with_tracks tracks) = record { long = tracks_long tracks few'; whole = refl } in
      (signals_copied.fills signals_at routes_at _ _ refl (omega arith) before).whole ∙ simp append_assoc

-- 3. Routes.
module _ (tracks : List Track) (signals : List ℕ) (routes : List Route) (w : Within 0 most_routes (ReadableRoute tracks (length signals)) routes) where
  routes_fit : All RouteFits routes
  routes_fit = all_map (route_fits tracks (length signals)) routes w.each

  module _ (file : List ℕ) (at : ℕ) (rest : List ℕ) (here : drop at file ≡ counted_file route_file routes ++ rest) where
    pub routes_room : RoutesRoom file at
    routes_room = counted_room route_part route_file route_image most_routes routes (all_map route_copied routes routes_fit) w.few file at rest here routes_at (omega arith)

    pub routes_stored : length tracks ≤ most_tracks → length signals ≤ most_signals → copy_routes file at (with_signals tracks signals) ≡ with_routes tracks signals routes
    unfolding copy_routes with_signals with_routes
    routes_stored few few' =
        let before : Filled routes_at (track_slot tracks ++ signal_slot signals) (with_signals tracks signals) = record { long = signals_long tracks few signals few'; whole = simp append_assoc } in
        (counted_fills route_part route_file route_image most_routes routes (all_map route_copied routes routes_fit) w.few file at rest here routes_at entries_at _ _ refl (omega arith) before).whole
        ∙ simp append_assoc

-- 4. Entries: the image is the plan's.
module _ (tracks : List Track) (entries : List Entry) (w : Within 0 most_entries (ReadableEntry (length tracks)) entries)
    (file : List ℕ) (at : ℕ) (rest : List ℕ) (here : drop at file ≡ counted_file entry_file entries ++ rest) where
  entries_copied : All (Copies entry_part entry_file entry_image) entries
  entries_copied = all_map (λ e v. entry_copied e (entry_fits (length tracks) e v)) entries w.each

  pub entries_room : EntriesRoom file at
  entries_room = counted_room entry_part entry_file entry_image most_entries entries entries_copied w.few file at rest here entries_at (omega arith)

  pub entries_stored : (signals : List ℕ) (routes : List Route) → length tracks ≤ most_tracks → length signals ≤ most_signals → Within 0 most_routes (ReadableRoute tracks (length signals)) routes →
      copy_entries file at (with_routes tracks signals routes) ≡ image_of (record { tracks = tracks; signals = signals; routes = routes; entries = entries })
  unfolding copy_entries with_routes image_of
  entries_stored signals routes few few' v =
      let before : Filled entries_at (track_slot tracks ++ signal_slot signals ++ route_slot routes) (with_routes tracks signals routes) =
      record { long = routes_long tracks few signals few' routes v.few (routes_fit tracks signals routes v); whole = simp append_assoc } in
      (counted_fills entry_part entry_file entry_image most_entries entries entries_copied w.few file at rest here entries_at image_size _ _ refl (omega arith) before).whole
      ∙ simp (append_assoc, zeros_none, append-nil)
