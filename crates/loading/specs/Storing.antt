-- Storing a file that was read: each part of it is copied to its place in the image. What a copy does to any bytes, right or not.
use Rattle.std.specs.Borrow.{MutBor}
use Rattle.std.specs.Prelude.{◌≡◌, ℕ, zero, suc, ◌+◌, ◌*◌, ◌<◌, ◌≤◌, List, length, get_or, take, drop, set}
use Rattle.std.proofs.lemmas.List.Edits.{sets}
use Rattle.plan.specs.Limits.{release_size, path_at, clear_at, normal_at, reverse_at, releases_at, route_size, entry_clear_at, entry_size, routes_at, entries_at, image_size}
use Rattle.plan.specs.Records.{Plan}
use Rattle.plan.specs.Image.{image_of}
use Rattle.reading.specs.Reading.{Got, form, got}

-- things of one size with their count before them: where they end, and the image with them copied to a place
unfoldable pub list_end : ℕ → List ℕ → ℕ → ℕ
list_end size file at = at + 1 + size * get_or file at 0

unfoldable pub copy_list : ℕ → List ℕ → ℕ → ℕ → List ℕ → List ℕ
copy_list size file at to image = sets image to (take (1 + size * get_or file at 0) (drop at file))

-- where the lists of a route stand in the file
unfoldable pub clear_from : List ℕ → ℕ → ℕ
clear_from file at = list_end 1 file (at + 1)

unfoldable pub normal_from : List ℕ → ℕ → ℕ
normal_from file at = list_end 1 file (clear_from file at)

unfoldable pub reverse_from : List ℕ → ℕ → ℕ
reverse_from file at = list_end 1 file (normal_from file at)

unfoldable pub releases_from : List ℕ → ℕ → ℕ
releases_from file at = list_end 1 file (reverse_from file at)

unfoldable pub route_end : List ℕ → ℕ → ℕ
route_end file at = list_end release_size file (releases_from file at)

unfoldable pub copy_route : List ℕ → ℕ → ℕ → List ℕ → List ℕ
copy_route file at to image =
    copy_list release_size file (releases_from file at) (to + releases_at)
    (copy_list 1 file (reverse_from file at) (to + reverse_at)
    (copy_list 1 file (normal_from file at) (to + normal_at)
    (copy_list 1 file (clear_from file at) (to + clear_at) (copy_list 1 file (at + 1) (to + path_at) (set image to (get_or file at 0))))))

unfoldable pub entry_end : List ℕ → ℕ → ℕ
entry_end file at = list_end 1 file (at + 1)

unfoldable pub copy_entry : List ℕ → ℕ → ℕ → List ℕ → List ℕ
copy_entry file at to image = copy_list 1 file (at + 1) (to + entry_clear_at) (set image to (get_or file at 0))

-- What the code requires: each list ends within the file, and within the image at its place there.

pub record ListRoom (size : ℕ) (file : List ℕ) (at to : ℕ) : Type 0 where
  pub in_file : at + 1 + size * get_or file at 0 ≤ length file
  pub in_image : to + 1 + size * get_or file at 0 ≤ image_size

pub record RouteRoom (file : List ℕ) (at to : ℕ) : Type 0 where
  pub path : ListRoom 1 file (at + 1) (to + path_at)
  pub clear : ListRoom 1 file (clear_from file at) (to + clear_at)
  pub normal : ListRoom 1 file (normal_from file at) (to + normal_at)
  pub reverse : ListRoom 1 file (reverse_from file at) (to + reverse_at)
  pub releases : ListRoom release_size file (releases_from file at) (to + releases_at)

pub record EntryRoom (file : List ℕ) (at to : ℕ) : Type 0 where
  pub clear : ListRoom 1 file (at + 1) (to + entry_clear_at)

-- Sections 3 and 4: parts after their count. Of a part, where it ends in the file, the image with it copied to a place, what that requires, and
-- how many bytes of the image it takes.
pub record Part : Type 1 where
  pub end : List ℕ → ℕ → ℕ
  pub copy : List ℕ → ℕ → ℕ → List ℕ → List ℕ
  pub room : List ℕ → ℕ → ℕ → Type 0
  pub size : ℕ

abbrev pub route_part : Part
route_part = record { end = route_end; copy = copy_route; room = RouteRoom; size = route_size }

abbrev pub entry_part : Part
entry_part = record { end = entry_end; copy = copy_entry; room = EntryRoom; size = entry_size }

-- k parts one after the other, and parts with their count before them
unfoldable pub copy_many : Part → ℕ → List ℕ → ℕ → ℕ → List ℕ → List ℕ
copy_many part zero file at to image = image
copy_many part (suc k) file at to image = copy_many part k file (part.end file at) (to + part.size) (part.copy file at to image)

unfoldable pub copy_counted : Part → List ℕ → ℕ → ℕ → List ℕ → List ℕ
copy_counted part file at to image = copy_many part (get_or file at 0) file (at + 1) (to + 1) (set image to (get_or file at 0))

unfoldable pub ManyRoom : Part → ℕ → List ℕ → ℕ → ℕ → Type 0
ManyRoom part zero file at to = Unit
ManyRoom part (suc k) file at to = part.room file at to × ManyRoom part k file (part.end file at) (to + part.size)

pub record CountedRoom (part : Part) (file : List ℕ) (at to : ℕ) : Type 0 where
  pub count : at < length file
  pub each : ManyRoom part (get_or file at 0) file (at + 1) (to + 1)

unfoldable pub copy_routes : List ℕ → ℕ → List ℕ → List ℕ
copy_routes file at image = copy_counted route_part file at routes_at image

unfoldable pub copy_entries : List ℕ → ℕ → List ℕ → List ℕ
copy_entries file at image = copy_counted entry_part file at entries_at image

abbrev pub RoutesRoom : List ℕ → ℕ → Type 0
RoutesRoom file at = CountedRoom route_part file at routes_at

abbrev pub EntriesRoom : List ℕ → ℕ → Type 0
EntriesRoom file at = CountedRoom entry_part file at entries_at

-- What lent memory holds after reading: the plan's image, or, where the file was refused, what it held.
unfoldable pub after_reading : Got Plan → List ℕ → List ℕ
after_reading (form f) old = old
after_reading (got p at rest) old = image_of p

-- What a step that stores a part requires and does, where the code is given it: at each turn it may be called, and its answers are those of definitions.
unfoldable pub StepsRoom : (ℕ → MutBor (List ℕ) → ℕ → Type 0) → (ℕ → MutBor (List ℕ) → ℕ → ℕ → MutBor (List ℕ) → Type 0) → ℕ → ℕ → ℕ → ℕ → Type 0
StepsRoom pre post size zero at to = Unit
StepsRoom pre post size (suc k) at to =
    ((image : MutBor (List ℕ)) → pre at image to) × ((image after : MutBor (List ℕ)) (end : ℕ) → post at image to end after → StepsRoom pre post size k end (to + size))

abbrev pub IsCopy : (ℕ → MutBor (List ℕ) → ℕ → ℕ → MutBor (List ℕ) → Type 0) → (ℕ → ℕ) → (ℕ → ℕ → List ℕ → List ℕ) → Type 0
IsCopy post end copy = (at to next : ℕ) (image after : MutBor (List ℕ)) → post at image to next after → (next ≡ end at) × (after.now ≡ copy at to image.now)

unfoldable pub copied : (ℕ → ℕ) → (ℕ → ℕ → List ℕ → List ℕ) → ℕ → ℕ → ℕ → ℕ → List ℕ → List ℕ
copied end copy size zero at to image = image
copied end copy size (suc k) at to image = copied end copy size k (end at) (to + size) (copy at to image)
