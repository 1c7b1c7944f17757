-- Every reader of specs/Images.antt is sound for the image that plan/specs/Image.antt gives its record: a sound reader stays so with zeros after it.
use mathlib.Core.Path.{◌≡◌, refl, sym, ap, ap₂}
use mathlib.Core.List.{List, [], ◌∷◌, append-nil, map}
use Prim.Native.Nat.{ℕ, zero, suc, ◌+◌, ◌*◌, ◌-◌, ◌≤◌, ◌<◌}
use native.Mathlib.Omega.{arith}
use lib.ListN.{length, replicate}
use Rattle.laws.specs.Tests.{Is}
use Rattle.laws.specs.Lists.{joined}
use Rattle.plan.specs.declared.Track.{Track}
use Rattle.plan.specs.Limits.{least_tracks, least_path, most_tracks, most_signals, most_routes, most_entries, most_path, most_clear, most_points, most_releases, track_size, release_size, route_size, entry_size, image_size}
use Rattle.plan.specs.Kinds.{is_point}
use Rattle.plan.specs.File.{track_file, release_file, counted_file, list_file, Rises, Within, ReadableTrack, ReadableRoute, ReadableEntry, Readable}
use Rattle.plan.specs.Image.{padded, counted_image, list_image, route_image, entry_image, image_of}
use Rattle.reading.specs.Reading.{Reader, and_then, done, counted, free, path_list, rising_list, point_list, track_section, signal_section}
use Rattle.reading.proofs.Sound.{Sound, done_sound, as_sound, joint_sound, then_sound, last_sound}
use Rattle.reading.proofs.Lists.{Chain, many_sound, joined_numbers, free_sound, rising_sound}
use Rattle.reading.proofs.Sections.{below_sound, path_sound, rising_list_sound, point_list_sound, track_section_sound, release_list_sound}
use Rattle.images.specs.Images.{zeros, roomy, list_room, route_room, route_rooms, entry_room, entry_rooms, rooms}

-- Zeros.

abbrev Zeros : ℕ → List ℕ → Type 0
Zeros k l = (length l ≡ k) × Chain (λ least v. (v < 1) × (least ≤ v)) free 0 l

all_zeros : (k : ℕ) (l : List ℕ) → Zeros k l → l ≡ replicate k 0
all_zeros zero [] h = refl
all_zeros zero (v ∷ l) h = absurd (omega (arith, h.0))
all_zeros (suc k) [] h = absurd (omega (arith, h.0))
all_zeros (suc k) (v ∷ l) h =
    let z : v ≡ 0 = omega (arith, h.1.0.0) in
    ap₂ ◌∷◌ z (all_zeros k l (omega (arith, h.0), h.1.1))

zeros_all : (k : ℕ) → Zeros k (replicate k 0)
zeros_all zero = (refl, tt)
zeros_all (suc k) = let rest = zeros_all k in (ap suc rest.0, ((omega arith, omega arith), rest.1))

pub zeros_sound : (k : ℕ) → Sound (λ l. l) (λ l. l ≡ replicate k 0) k (zeros k)
unfolding zeros
zeros_sound k = as_sound (many_sound free (below_sound 1) k 0) (omega arith) (λ l h. (all_zeros k l h, sym (joined_numbers l))) (λ l e. rw e (zeros_all k))

-- A reader and zeros after it.
pub roomy_sound : {A : Type 0} {file : A → List ℕ} {Ok : A → Type 0} {m : ℕ} {reader : Reader A} (size : ℕ) → Sound file Ok m reader
    → Sound (λ a. padded size (file a)) Ok (m + size) (roomy size file reader)
unfolding roomy padded
roomy_sound {A} {file} {Ok} {m} {reader} size sound = joint_sound sound (λ a ok. after a) (omega arith) (λ a b ok e. rw e (ok, refl)) (λ b ok. (b, ok, refl))
  where
    after : (a : A) → Sound (λ (b : A). replicate (size - length (file a)) 0) (λ b. b ≡ a) size (and_then (zeros (size - length (file a))) (λ none. done a))
    after a = joint_sound (zeros_sound (size - length (file a))) (λ l ok. done_sound a) (omega arith) (λ l b e f. (f, rw (e, append-nil))) (λ b e. (replicate (size - length (file a)) 0, refl, e))

-- What a list, or things after their count, with zeros after them are in an image.

list_padded : (most : ℕ) (l : List ℕ) → list_image most l ≡ padded (1 + most) (list_file l)
unfolding list_image list_file padded
list_padded most l = let e : 1 + most - length (length l ∷ l) ≡ most - length l = omega arith in rw e

counted_padded : {A : Type 0} (room : ℕ) (image : A → List ℕ) (l : List A) → length l ∷ padded room (joined image l) ≡ padded (1 + room) (counted_file image l)
unfolding counted_file padded
counted_padded room image l = let e : 1 + room - length (length l ∷ joined image l) ≡ room - length (joined image l) = omega arith in rw e

pub list_room_sound : {Ok : List ℕ → Type 0} {m : ℕ} {reader : Reader (List ℕ)} (most : ℕ) → Sound list_file Ok m reader → Sound (list_image most) Ok (m + (1 + most)) (list_room most reader)
unfolding list_room
list_room_sound most sound = as_sound (roomy_sound (1 + most) sound) (omega arith) (λ l ok. (ok, list_padded most l)) (λ l ok. ok)

pub counted_room_sound : {A : Type 0} {Ok : List A → Type 0} {m : ℕ} {reader : Reader (List A)} (size most : ℕ) (image : A → List ℕ) → Sound (counted_file image) Ok m reader
    → Sound (counted_image size most image) Ok (m + (1 + size * most)) (roomy (1 + size * most) (counted_file image) reader)
unfolding counted_image
counted_room_sound size most image sound = as_sound (roomy_sound (1 + size * most) sound) (omega arith) (λ l ok. (ok, counted_padded (size * most) image l)) (λ l ok. ok)

-- The records and the sections.

pub path_room_sound : (tracks : ℕ) → Sound (list_image most_path) (Within least_path most_path (λ u. u < tracks)) (1 + most_path + (1 + most_path)) (list_room most_path (path_list tracks))
path_room_sound tracks = list_room_sound most_path (path_sound tracks)

pub rising_room_sound : (tracks most : ℕ) → Sound (list_image most) (λ l. Within 0 most (λ u. u < tracks) l × Rises l) (1 + most + (1 + most)) (list_room most (rising_list tracks most))
rising_room_sound tracks most = list_room_sound most (rising_list_sound tracks most)

pub point_room_sound : (tracks : List Track) →
    Sound (list_image most_points) (λ l. Within 0 most_points (λ p. Is (is_point tracks p)) l × Rises l) (1 + most_points + (1 + most_points)) (list_room most_points (point_list tracks))
point_room_sound tracks = list_room_sound most_points (point_list_sound tracks)

route_room_sound : (tracks : List Track) (signals : ℕ) → Sound route_image (ReadableRoute tracks signals) (2 * route_size) (route_room tracks signals)
unfolding route_room route_image
route_room_sound tracks signals = as_sound
    (then_sound (λ r. r.start) (λ a r ok. cc) (below_sound signals 0) λ start.
    then_sound (λ r. r.path) (λ a r ok. cc) (path_room_sound (length tracks)) λ path.
    then_sound (λ r. r.clear) (λ a r ok. cc) (rising_room_sound (length tracks) most_clear) λ clear.
    then_sound (λ r. r.normal) (λ a r ok. cc) (point_room_sound tracks) λ normal.
    then_sound (λ r. r.reverse) (λ a r ok. cc) (point_room_sound tracks) λ reverse.
    last_sound (λ r. r.releases) (λ releases. record { start = start; path = path; clear = clear; normal = normal; reverse = reverse; releases = releases }) (λ a. refl)
    (counted_room_sound release_size most_releases release_file (release_list_sound tracks)))
    (omega arith)
    (λ r ok. (search arith, refl))
    (λ r ok. search arith)

entry_room_sound : (tracks least : ℕ) → Sound entry_image (λ e. ReadableEntry tracks e × (least ≤ e.track)) (2 * entry_size) (entry_room tracks least)
unfolding entry_room entry_image
entry_room_sound tracks least = as_sound
    (then_sound (λ e. e.track) (λ a e ok. cc) (below_sound tracks least) λ on.
    last_sound (λ e. e.clear) (λ clear. record { track = on; clear = clear }) (λ a. refl) (rising_room_sound tracks most_clear))
    (omega arith)
    (λ e ok. (search arith, refl))
    (λ e ok. search arith)

pub track_rooms_sound : Sound (counted_image track_size most_tracks track_file) (λ l. Within least_tracks most_tracks (ReadableTrack (length l)) l) (1 + most_tracks * track_size + (1 + track_size * most_tracks)) (roomy (1 + track_size * most_tracks) (counted_file track_file) track_section)
track_rooms_sound = counted_room_sound track_size most_tracks track_file track_section_sound

pub route_rooms_sound : (tracks : List Track) (signals : ℕ) →
    Sound (counted_file route_image) (Within 0 most_routes (ReadableRoute tracks signals)) (1 + most_routes * (2 * route_size)) (route_rooms tracks signals)
unfolding route_rooms counted
route_rooms_sound tracks signals = free_sound (λ k. ReadableRoute tracks signals) 0 most_routes (λ k from. route_room_sound tracks signals) (λ k r. (λ h. h, λ h. h))

pub entry_rooms_sound : (tracks : ℕ) →
    Sound (counted_file entry_image) (λ l. Within 0 most_entries (ReadableEntry tracks) l × Rises (map (λ e. e.track) l)) (1 + most_entries * (2 * entry_size)) (entry_rooms tracks)
unfolding entry_rooms
entry_rooms_sound tracks = rising_sound (ReadableEntry tracks) (λ e. e.track) most_entries (entry_room_sound tracks)

pub rooms_sound : Sound image_of Readable (3 * image_size) rooms
unfolding rooms signal_section image_of
rooms_sound = as_sound
    (then_sound (λ p. p.tracks) (λ a p ok. cc) track_rooms_sound λ tracks.
    then_sound (λ p. p.signals) (λ a p ok. cc) (rising_room_sound (length tracks) most_signals) λ signals.
    then_sound (λ p. p.routes) (λ a p ok. cc) (counted_room_sound route_size most_routes route_image (route_rooms_sound tracks (length signals))) λ routes.
    last_sound (λ p. p.entries) (λ entries. record { tracks = tracks; signals = signals; routes = routes; entries = entries }) (λ a. refl)
    (counted_room_sound entry_size most_entries entry_image (entry_rooms_sound (length tracks))))
    (omega arith)
    (λ p ok. (search arith, refl))
    (λ p ok. search arith)
