-- A part of an image in the steps that the code takes: what a reader saw, and the zeros after it, are what the part's own reader answers, and where it
-- is passed the next part stands where it must. Assumes nothing.
use Rattle.reading.specs.declared.Form.{Form}
use Rattle.std.specs.Prelude.{Err, Ok, Result}
use mathlib.Core.Path.{◌≡◌, refl, ◌∙◌}
use mathlib.Core.List.{List}
use Prim.Native.Nat.{ℕ, ◌+◌, ◌*◌, ◌-◌, ◌≤◌}
use native.Mathlib.Omega.{arith}
use native.Mathlib.Nat.{mul-le-mul_left}
use lib.ListN.{length, drop}
use Rattle.laws.specs.Lists.{all_map}
use Rattle.plan.specs.declared.Track.{Track}
use Rattle.plan.specs.Limits.{most_routes, most_entries, route_size}
use Rattle.plan.specs.Records.{Route}
use Rattle.plan.specs.File.{counted_file, Within, ReadableRoute}
use Rattle.plan.specs.Image.{route_image, route_in}
use Rattle.plan.proofs.Shown.{length_padded, length_joined, route_shows, route_fits}
use Rattle.reading.specs.Reading.{Reader, below, free, after_entry, scanned}
use Rattle.reading.proofs.Sound.{Sound, sound_got, sound_next}
use Rattle.reading.proofs.Scanned.{Steady, passed, then_stop, then_step, then_last, then_steady, many_steady, number_steady, done_steady}
use Rattle.reading.proofs.Scanned.{path_steady, rising_steady, points_steady, releases_steady, counted_steady}
use Rattle.images.specs.Images.{zeros, roomy, list_room, route_room, route_rooms, entry_room, entry_rooms}
use Rattle.images.proofs.Roomy.{roomy_sound}

pub roomy_steady : {A : Type 0} {reader : Reader A} (size : ℕ) (file : A → List ℕ) → Steady reader → Steady (roomy size file reader)
unfolding roomy zeros
roomy_steady size file s = then_steady s (λ a. then_steady (many_steady free (number_steady (below 1)) _ 0) (λ none. done_steady a))

module _ {A : Type 0} {file : A → List ℕ} {Good : A → Type 0} {m : ℕ} {reader : Reader A} (size : ℕ) (sound : Sound file Good m reader) (steady : Steady reader)
    (image : List ℕ) (from : ℕ) {seen : Result ℕ Form} (told : seen ≡ scanned reader image from) where
  -- refused, it is so with its zeros
  pub room_stop : {f : Form} → seen ≡ Err f → seen ≡ scanned (roomy size file reader) image from
  unfolding roomy
  room_stop e = then_stop reader _ image from told e

  module _ {to p : ℕ} (place : to ≡ from + size) (end : seen ≡ Ok p) {r : Result ℕ Form} (after : r ≡ scanned (zeros (to - p)) image p) where
    pub room_told : r ≡ scanned (roomy size file reader) image from
    unfolding roomy
    room_told = then_step reader _ image from told steady end λ a h.
        let n = sound_next sound from (drop from image) h in
        let z : to - p ≡ size - length (file a) = omega arith in
        after ∙ rw z (then_last (zeros (size - length (file a))) (λ none. a) image p refl)

    pub room_next : {q : ℕ} → ((a : A) → Good a → length (file a) ≤ size) → r ≡ Ok q → q ≡ to
    room_next {q} fits e =
        let (a, w) = passed (roomy size file reader) image from room_told (roomy_steady size file steady) e in
        let whole = roomy_sound size sound in
        let ok = (sound_got whole from (drop from image) w).0 in
        omega (arith, place, sound_next whole from (drop from image) w, length_padded size (file a) (fits a ok))

-- The records of the routes fill no more than their room.
pub routes_fit : (tracks : List Track) (signals : ℕ) (l : List Route) → Within 0 most_routes (ReadableRoute tracks signals) l → length (counted_file route_image l) ≤ 1 + route_size * most_routes
unfolding counted_file
routes_fit tracks signals l ok =
    let shows = all_map (λ r w. route_shows r (route_fits tracks signals r w)) l ok.each in
    let most : route_size * length l ≤ route_size * most_routes = mul-le-mul_left route_size ok.few in
    omega (arith, length_joined route_in route_size route_image l shows)

-- The records, and all of them, are steady.

pub route_room_steady : (tracks : List Track) (signals : ℕ) → Steady (route_room tracks signals)
unfolding route_room list_room
route_room_steady tracks signals =
    then_steady (number_steady _ _) λ start. then_steady (roomy_steady _ _ (path_steady _)) λ path. then_steady (roomy_steady _ _ (rising_steady _ _)) λ clear.
    then_steady (roomy_steady _ _ (points_steady _)) λ normal. then_steady (roomy_steady _ _ (points_steady _)) λ reverse.
    then_steady (roomy_steady _ _ (releases_steady _)) λ releases. done_steady _

pub entry_room_steady : (tracks least : ℕ) → Steady (entry_room tracks least)
unfolding entry_room list_room
entry_room_steady tracks least = then_steady (number_steady _ _) λ on. then_steady (roomy_steady _ _ (rising_steady _ _)) λ clear. done_steady _

pub route_rooms_steady : (tracks : List Track) (signals : ℕ) → Steady (route_rooms tracks signals)
unfolding route_rooms
route_rooms_steady tracks signals = counted_steady 0 most_routes free (λ least. route_room_steady tracks signals)

pub entry_rooms_steady : (tracks : ℕ) → Steady (entry_rooms tracks)
unfolding entry_rooms
entry_rooms_steady tracks = counted_steady 0 most_entries after_entry (entry_room_steady tracks)
