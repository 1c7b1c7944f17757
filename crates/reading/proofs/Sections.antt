-- Every reader of specs/Reading.antt is sound for the file that specs/File.antt gives its record.
use mathlib.Core.Path.{refl}
use mathlib.Core.List.{List, [], ◌∷◌, map}
use Prim.Native.Nat.{ℕ, ◌+◌, ◌*◌, ◌≤◌, ◌<◌}
use native.Mathlib.Omega.{arith}
use lib.ListN.{length}
use borrow.Author.Tests.{ltb-true, lt-ltb}
use Rattle.laws.specs.Tests.{Is}
use Rattle.plan.specs.declared.Track.{Track}
use Rattle.plan.specs.Limits.{least_tracks, most_tracks, most_signals, most_routes, most_entries, least_path, most_path, most_clear, most_points, most_releases, track_size, release_size, route_size, entry_size, image_size}
use Rattle.plan.specs.Kinds.{kinds, is_point, limit_of}
use Rattle.plan.specs.File.{track_file, release_file, counted_file, list_file, route_file, entry_file, file_of, Rises, Within, ReadableTrack, ReadableRelease, ReadableRoute, ReadableEntry, Readable}
use Rattle.reading.specs.Reading.{number, counted, below, path_list, rising_list, point_list, track, track_section, signal_section, release, release_list, route, route_section, entry, entry_section, sections}
use Rattle.reading.proofs.Sound.{Sound, number_sound, then_sound, last_sound, as_sound}
use Rattle.reading.proofs.Lists.{free_sound, rising_sound, list_file_lem, rising_numbers}

pub below_sound : (limit least : ℕ) → Sound (λ v. v ∷ []) (λ v. (v < limit) × (least ≤ v)) 1 (number (below limit) least)
below_sound limit least = as_sound (number_sound (below limit) least) (omega arith) (λ v ok. ((ltb-true _ _ ok.0, ok.1), refl)) (λ v ok. (lt-ltb _ _ ok.0, ok.1))

pub path_sound : (tracks : ℕ) → Sound list_file (Within least_path most_path (λ u. u < tracks)) (1 + most_path) (path_list tracks)
unfolding path_list counted
path_sound tracks = as_sound (free_sound (λ k u. u < tracks) least_path most_path (λ k. below_sound tracks) (λ k u. (λ h. h.0, λ h. (h, omega arith)))) (omega arith)
    (λ l ok. (ok, list_file_lem l)) (λ l ok. ok)

pub rising_list_sound : (tracks most : ℕ) → Sound list_file (λ l. Within 0 most (λ u. u < tracks) l × Rises l) (1 + most) (rising_list tracks most)
unfolding rising_list
rising_list_sound tracks most = rising_numbers _ most (below_sound tracks)

pub point_list_sound : (tracks : List Track) → Sound list_file (λ l. Within 0 most_points (λ p. Is (is_point tracks p)) l × Rises l) (1 + most_points) (point_list tracks)
unfolding point_list
point_list_sound tracks = rising_numbers _ most_points (number_sound (is_point tracks))

track_sound : (tracks : ℕ) → Sound track_file (ReadableTrack tracks) track_size (track tracks)
unfolding track track_file
track_sound tracks = as_sound
    (then_sound (λ t. t.kind) (λ a t ok. cc) (below_sound kinds 0) λ kind.
    then_sound (λ t. t.first) (λ a t ok. cc) (below_sound (limit_of tracks kind 0) 0) λ first.
    then_sound (λ t. t.second) (λ a t ok. cc) (below_sound (limit_of tracks kind 1) 0) λ second.
    last_sound (λ t. t.third) (λ third. record { kind = kind; first = first; second = second; third = third }) (λ a. refl) (below_sound (limit_of tracks kind 2) 0))
    (omega arith)
    (λ t ok. (search arith, refl))
    (λ t ok. search arith)

pub track_section_sound : Sound (counted_file track_file) (λ l. Within least_tracks most_tracks (ReadableTrack (length l)) l) (1 + most_tracks * track_size) track_section
unfolding track_section
track_section_sound = free_sound ReadableTrack least_tracks most_tracks (λ k from. track_sound k) (λ k t. (λ h. h, λ h. h))

release_sound : (tracks : List Track) (least : ℕ) → Sound release_file (λ r. ReadableRelease tracks r × (least ≤ r.point)) release_size (release tracks least)
unfolding release release_file
release_sound tracks least = as_sound
    (then_sound (λ r. r.track) (λ a r ok. cc) (below_sound (length tracks) 0) λ from.
    last_sound (λ r. r.point) (λ point. record { track = from; point = point }) (λ a. refl) (number_sound (is_point tracks) least))
    (omega arith)
    (λ r ok. (search arith, refl))
    (λ r ok. search arith)

pub release_list_sound : (tracks : List Track) →
    Sound (counted_file release_file) (λ l. Within 0 most_releases (ReadableRelease tracks) l × Rises (map (λ q. q.point) l)) (1 + most_releases * release_size) (release_list tracks)
unfolding release_list
release_list_sound tracks = rising_sound (ReadableRelease tracks) (λ q. q.point) most_releases (release_sound tracks)

route_sound : (tracks : List Track) (signals : ℕ) → Sound route_file (ReadableRoute tracks signals) route_size (route tracks signals)
unfolding route route_file
route_sound tracks signals = as_sound
    (then_sound (λ r. r.start) (λ a r ok. cc) (below_sound signals 0) λ start.
    then_sound (λ r. r.path) (λ a r ok. cc) (path_sound (length tracks)) λ path.
    then_sound (λ r. r.clear) (λ a r ok. cc) (rising_list_sound (length tracks) most_clear) λ clear.
    then_sound (λ r. r.normal) (λ a r ok. cc) (point_list_sound tracks) λ normal.
    then_sound (λ r. r.reverse) (λ a r ok. cc) (point_list_sound tracks) λ reverse.
    last_sound (λ r. r.releases) (λ releases. record { start = start; path = path; clear = clear; normal = normal; reverse = reverse; releases = releases }) (λ a. refl) (release_list_sound tracks))
    (omega arith)
    (λ r ok. (search arith, refl))
    (λ r ok. search arith)

entry_sound : (tracks least : ℕ) → Sound entry_file (λ e. ReadableEntry tracks e × (least ≤ e.track)) entry_size (entry tracks least)
unfolding entry entry_file
entry_sound tracks least = as_sound
    (then_sound (λ e. e.track) (λ a e ok. cc) (below_sound tracks least) λ on.
    last_sound (λ e. e.clear) (λ clear. record { track = on; clear = clear }) (λ a. refl) (rising_list_sound tracks most_clear))
    (omega arith)
    (λ e ok. (search arith, refl))
    (λ e ok. search arith)

pub route_section_sound : (tracks : List Track) (signals : ℕ) →
    Sound (counted_file route_file) (Within 0 most_routes (ReadableRoute tracks signals)) (1 + most_routes * route_size) (route_section tracks signals)
unfolding route_section counted
route_section_sound tracks signals = free_sound (λ k. ReadableRoute tracks signals) 0 most_routes (λ k from. route_sound tracks signals) (λ k r. (λ h. h, λ h. h))

pub entry_section_sound : (tracks : ℕ) →
    Sound (counted_file entry_file) (λ l. Within 0 most_entries (ReadableEntry tracks) l × Rises (map (λ e. e.track) l)) (1 + most_entries * entry_size) (entry_section tracks)
unfolding entry_section
entry_section_sound tracks = rising_sound (ReadableEntry tracks) (λ e. e.track) most_entries (entry_sound tracks)

pub sections_sound : Sound file_of Readable image_size sections
unfolding sections signal_section file_of
sections_sound = as_sound
    (then_sound (λ p. p.tracks) (λ a p ok. cc) track_section_sound λ tracks.
    then_sound (λ p. p.signals) (λ a p ok. cc) (rising_list_sound (length tracks) most_signals) λ signals.
    then_sound (λ p. p.routes) (λ a p ok. cc) (route_section_sound tracks (length signals)) λ routes.
    last_sound (λ p. p.entries) (λ entries. record { tracks = tracks; signals = signals; routes = routes; entries = entries }) (λ a. refl) (entry_section_sound (length tracks)))
    (omega arith)
    (λ p ok. (search arith, refl))
    (λ p ok. search arith)
