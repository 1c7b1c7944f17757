-- Reading an image: as a file is read, but that every list stands at its full length, with zeros past its count. What is read is what an image must
-- hold so that some file reads as it; proofs/Standing.antt has that as a law.
use Rattle.reading.specs.declared.Form.{Form}
use Rattle.std.specs.Prelude.{ℕ, ◌+◌, ◌*◌, ◌-◌, Bool, true, false, cond, List, ltb, length, take, drop, Err, Ok, Result}
use Rattle.laws.specs.Lists.{empty_from}
use Rattle.plan.specs.declared.Track.{Track}
use Rattle.plan.specs.Limits.{most_tracks, most_signals, most_routes, most_entries, most_path, most_clear, most_points, most_releases, track_size, release_size, route_size, entry_size, tracks_at}
use Rattle.plan.specs.Records.{Route, Entry, Plan}
use Rattle.plan.specs.File.{track_file, release_file, counted_file, list_file}
use Rattle.plan.specs.Image.{route_image, entry_image}
use Rattle.reading.specs.Reading.{Reader, and_then, done, number, many, counted, below, free, path_list, rising_list, point_list, track_section, signal_section, release_list, after_entry, scanned}

-- so many zeros
unfoldable pub zeros : ℕ → Reader (List ℕ)
zeros k = many (number (below 1)) free k 0

-- what is read, and zeros after it, up to so many bytes in all
unfoldable pub roomy : {A : Type 0} → ℕ → (A → List ℕ) → Reader A → Reader A
roomy size file reader = and_then reader λ a. and_then (zeros (size - length (file a))) λ none. done a

-- a list of at most so many numbers
unfoldable pub list_room : ℕ → Reader (List ℕ) → Reader (List ℕ)
list_room most reader = roomy (1 + most) list_file reader

-- The records of routes and entries, and the sections.

unfoldable pub route_room : List Track → ℕ → Reader Route
route_room tracks signals =
    and_then (number (below signals) 0) λ start.
    and_then (list_room most_path (path_list (length tracks))) λ path.
    and_then (list_room most_clear (rising_list (length tracks) most_clear)) λ clear.
    and_then (list_room most_points (point_list tracks)) λ normal.
    and_then (list_room most_points (point_list tracks)) λ reverse.
    and_then (roomy (1 + release_size * most_releases) (counted_file release_file) (release_list tracks)) λ releases.
    done (record { start = start; path = path; clear = clear; normal = normal; reverse = reverse; releases = releases })

unfoldable pub route_rooms : List Track → ℕ → Reader (List Route)
route_rooms tracks signals = counted 0 most_routes (λ least. route_room tracks signals) free

unfoldable pub entry_room : ℕ → ℕ → Reader Entry
entry_room tracks least =
    and_then (number (below tracks) least) λ on.
    and_then (list_room most_clear (rising_list tracks most_clear)) λ clear.
    done (record { track = on; clear = clear })

unfoldable pub entry_rooms : ℕ → Reader (List Entry)
entry_rooms tracks = counted 0 most_entries (entry_room tracks) after_entry

unfoldable pub rooms : Reader Plan
rooms =
    and_then (roomy (1 + track_size * most_tracks) (counted_file track_file) track_section) λ tracks.
    and_then (list_room most_signals (signal_section tracks)) λ signals.
    and_then (roomy (1 + route_size * most_routes) (counted_file route_image) (route_rooms tracks (length signals))) λ routes.
    and_then (roomy (1 + entry_size * most_entries) (counted_file entry_image) (entry_rooms (length tracks))) λ entries.
    done (record { tracks = tracks; signals = signals; routes = routes; entries = entries })

-- Whether an image is one that some file reads as.

abbrev pub passes : Result ℕ Form → Bool
passes (Ok at) = true
passes (Err f) = false

unfoldable pub standing : List ℕ → Bool
standing image = passes (scanned rooms image tracks_at)

-- Whether the bytes from an offset up to another are there, and are zeros.
unfoldable pub zeros_in : List ℕ → ℕ → ℕ → Bool
zeros_in image from to = cond (ltb to from) false (cond (ltb (length image) to) false (empty_from 0 (take (to - from) (drop from image))))
