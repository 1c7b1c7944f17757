-- The numbers of document 01, "The plan file", and the offsets computed from them. The code's constants stand in src/limits.rt, and its
-- function `limits` ties the two. A larger junction changes these numbers, those constants and the document's own in forms/specs, which are proved
-- to be the same, and no proof; docs/CHANGING.md has what else follows. Routes are at most 64: a hold set has a bit for each.
use Rattle.std.specs.Prelude.{ℕ, ◌+◌, ◌*◌, List, [], ◌∷◌}

-- How many of each a plan may have.

abbrev pub least_tracks : ℕ
least_tracks = 1

abbrev pub most_tracks : ℕ
most_tracks = 64

abbrev pub most_signals : ℕ
most_signals = 32

abbrev pub most_routes : ℕ
most_routes = 48

abbrev pub most_entries : ℕ
most_entries = 16

abbrev pub least_path : ℕ
least_path = 1

abbrev pub most_path : ℕ
most_path = 32

abbrev pub most_clear : ℕ
most_clear = 64

abbrev pub most_points : ℕ
most_points = 16

abbrev pub most_releases : ℕ
most_releases = 32

-- The bytes of a track and of a release.

abbrev pub track_size : ℕ
track_size = 4

abbrev pub release_size : ℕ
release_size = 2

-- The image: where each list of a route and of an entry stands, from the record's own start ..

abbrev pub path_at : ℕ
path_at = 1

abbrev pub clear_at : ℕ
clear_at = path_at + (1 + most_path)

abbrev pub normal_at : ℕ
normal_at = clear_at + (1 + most_clear)

abbrev pub reverse_at : ℕ
reverse_at = normal_at + (1 + most_points)

abbrev pub releases_at : ℕ
releases_at = reverse_at + (1 + most_points)

abbrev pub route_size : ℕ
route_size = releases_at + (1 + release_size * most_releases)

abbrev pub entry_clear_at : ℕ
entry_clear_at = 1

abbrev pub entry_size : ℕ
entry_size = entry_clear_at + (1 + most_clear)

-- .. and where each section stands. The image is as long as the longest file.

abbrev pub tracks_at : ℕ
tracks_at = 0

abbrev pub signals_at : ℕ
signals_at = tracks_at + (1 + track_size * most_tracks)

abbrev pub routes_at : ℕ
routes_at = signals_at + (1 + most_signals)

abbrev pub entries_at : ℕ
entries_at = routes_at + (1 + route_size * most_routes)

abbrev pub image_size : ℕ
image_size = entries_at + (1 + entry_size * most_entries)

-- All of them, in the order in which they stand above.
abbrev pub limit_table : List ℕ
limit_table =
    least_tracks ∷ most_tracks ∷ most_signals ∷ most_routes ∷ most_entries ∷ least_path ∷ most_path ∷ most_clear ∷ most_points ∷ most_releases ∷ track_size
    ∷ release_size ∷ path_at ∷ clear_at ∷ normal_at ∷ reverse_at ∷ releases_at ∷ route_size ∷ entry_clear_at ∷ entry_size ∷ tracks_at ∷ signals_at ∷ routes_at
    ∷ entries_at ∷ image_size ∷ []
