-- The plan in memory: the file with every list at its full length, zeros past its end, so that each thing stands at an offset of its own.
use Rattle.std.specs.Prelude.{ℕ, ◌+◌, ◌*◌, min, ◌-◌, cond, List, [], ◌∷◌, ◌++◌, ltb, length, get_or, take, drop, replicate}
use Rattle.laws.specs.Lists.{joined}
use Rattle.laws.specs.Tables.{tab}
use Rattle.plan.specs.declared.Track.{Track}
use Rattle.plan.specs.declared.Release.{Release}
use Rattle.plan.specs.Limits.{most_tracks, most_signals, most_routes, most_entries, most_path, most_clear, most_points, most_releases, track_size, release_size, path_at, clear_at, normal_at, reverse_at, releases_at, route_size, entry_clear_at, entry_size, tracks_at, signals_at, routes_at, entries_at}
use Rattle.plan.specs.Records.{Route, Entry, Plan}
use Rattle.plan.specs.File.{track_file, release_file}

-- The image of a plan.

-- bytes, and zeros up to a size
unfoldable pub padded : ℕ → List ℕ → List ℕ
padded size bytes = bytes ++ replicate (size - length bytes) 0

-- things of one size after their count, with room for as many as there may be
unfoldable pub counted_image : {A : Type 0} → ℕ → ℕ → (A → List ℕ) → List A → List ℕ
counted_image size most image l = length l ∷ padded (size * most) (joined image l)

unfoldable pub list_image : ℕ → List ℕ → List ℕ
list_image most l = length l ∷ padded most l

unfoldable pub route_image : Route → List ℕ
route_image r =
    r.start
    ∷ (list_image most_path r.path
    ++ (list_image most_clear r.clear
    ++ (list_image most_points r.normal ++ (list_image most_points r.reverse ++ counted_image release_size most_releases release_file r.releases))))

unfoldable pub entry_image : Entry → List ℕ
entry_image e = e.track ∷ list_image most_clear e.clear

unfoldable pub image_of : Plan → List ℕ
image_of p =
    counted_image track_size most_tracks track_file p.tracks
    ++ (list_image most_signals p.signals
    ++ (counted_image route_size most_routes route_image p.routes ++ counted_image entry_size most_entries entry_image p.entries))

-- The plan of an image, whatever its bytes: a count beyond its limit counts as the limit.

unfoldable pub count_in : List ℕ → ℕ → ℕ → ℕ
count_in image at most = min most (get_or image at 0)

unfoldable pub list_in : List ℕ → ℕ → ℕ → List ℕ
list_in image at most = take (count_in image at most) (drop (at + 1) image)

-- things of one size after their count
unfoldable pub things_in : {A : Type 0} → (List ℕ → ℕ → A) → ℕ → List ℕ → ℕ → ℕ → List A
things_in thing size image at most = tab (count_in image at most) (λ i. thing image (at + 1 + size * i))

unfoldable pub track_in : List ℕ → ℕ → Track
track_in image at = record { kind = get_or image at 0; first = get_or image (at + 1) 0; second = get_or image (at + 2) 0; third = get_or image (at + 3) 0 }

unfoldable pub release_in : List ℕ → ℕ → Release
release_in image at = record { track = get_or image at 0; point = get_or image (at + 1) 0 }

unfoldable pub releases_in : List ℕ → ℕ → ℕ → List Release
releases_in image at most = things_in release_in release_size image at most

unfoldable pub route_in : List ℕ → ℕ → Route
route_in image at = record {
  start = get_or image at 0;
  path = list_in image (at + path_at) most_path;
  clear = list_in image (at + clear_at) most_clear;
  normal = list_in image (at + normal_at) most_points;
  reverse = list_in image (at + reverse_at) most_points;
  releases = releases_in image (at + releases_at) most_releases;
}

unfoldable pub entry_in : List ℕ → ℕ → Entry
entry_in image at = record { track = get_or image at 0; clear = list_in image (at + entry_clear_at) most_clear }

unfoldable pub tracks_in : List ℕ → List Track
tracks_in image = things_in track_in track_size image tracks_at most_tracks

unfoldable pub signals_in : List ℕ → List ℕ
signals_in image = list_in image signals_at most_signals

unfoldable pub plan_of : List ℕ → Plan
plan_of image = record {
  tracks = tracks_in image;
  signals = signals_in image;
  routes = things_in route_in route_size image routes_at most_routes;
  entries = things_in entry_in entry_size image entries_at most_entries;
}

-- The list at an offset of a route's record, as the code hands it on; a route that there isn't has none.
unfoldable pub route_list : List ℕ → ℕ → ℕ → ℕ → List ℕ
route_list image r at most = cond (ltb r (count_in image routes_at most_routes)) (list_in image (routes_at + 1 + route_size * r + at) most) []
