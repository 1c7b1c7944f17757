-- Written by .ci/contracts --write: for each function of src/lib.rt, that any two results that its contract allows are the same.
use Rattle.std.specs.Prelude.{List, ℕ, Bool, ◌≡◌ as ◌is◌, Result, ◌≡◌, ◌-◌, length}
use Rattle.laws.specs.Once.{equal_once}
use Rattle.reading.specs.declared.Form.{Form}
use Rattle.plan.specs.Limits.{tracks_at, routes_at, entries_at}
use Rattle.plan.specs.Image.{plan_of}
use Rattle.reading.specs.Calls.{stepped}
use Rattle.reading.specs.Reading.{after_entry, scanned}
use Rattle.images.specs.Images.{entry_room, entry_rooms, rooms, route_room, route_rooms, standing, zeros, zeros_in}

pub zeros_in_once : (bytes : List ℕ) (from to : ℕ) (r r₂ : Bool)
    → (r ≡ zeros_in bytes from to)
    → (r₂ ≡ zeros_in bytes from to)
    → r is r₂
zeros_in_once bytes from to r r₂ by_one by_other = equal_once _ _ _ by_one by_other

pub zeros_seen_once : (bytes : List ℕ) (from to : ℕ) (r r₂ : Result ℕ Form)
    → (r ≡ scanned (zeros (to - from)) bytes from)
    → (r₂ ≡ scanned (zeros (to - from)) bytes from)
    → r is r₂
zeros_seen_once bytes from to r r₂ by_one by_other = equal_once _ _ _ by_one by_other

pub zeros_to_once : (bytes : List ℕ) (from to : ℕ) (r r₂ : Result ℕ Form)
    → (r ≡ scanned (zeros (to - from)) bytes from)
    → (r₂ ≡ scanned (zeros (to - from)) bytes from)
    → r is r₂
zeros_to_once bytes from to r r₂ by_one by_other = equal_once _ _ _ by_one by_other

pub route_room_once : (image : List ℕ) (at : ℕ) (r r₂ : Result ℕ Form)
    → (r ≡ scanned (route_room (plan_of image).tracks (length (plan_of image).signals)) image at)
    → (r₂ ≡ scanned (route_room (plan_of image).tracks (length (plan_of image).signals)) image at)
    → r is r₂
route_room_once image at r r₂ by_one by_other = equal_once _ _ _ by_one by_other

pub route_rooms_once : (image : List ℕ) (r r₂ : Result ℕ Form)
    → (r ≡ scanned (route_rooms (plan_of image).tracks (length (plan_of image).signals)) image routes_at)
    → (r₂ ≡ scanned (route_rooms (plan_of image).tracks (length (plan_of image).signals)) image routes_at)
    → r is r₂
route_rooms_once image r r₂ by_one by_other = equal_once _ _ _ by_one by_other

pub entry_room_once : (image : List ℕ) (at least : ℕ) (r r₂ : Result (ℕ × ℕ) Form)
    → (r ≡ stepped (entry_room (length (plan_of image).tracks)) after_entry image at least)
    → (r₂ ≡ stepped (entry_room (length (plan_of image).tracks)) after_entry image at least)
    → r is r₂
entry_room_once image at least r r₂ by_one by_other = equal_once _ _ _ by_one by_other

pub entry_rooms_once : (image : List ℕ) (r r₂ : Result ℕ Form)
    → (r ≡ scanned (entry_rooms (length (plan_of image).tracks)) image entries_at)
    → (r₂ ≡ scanned (entry_rooms (length (plan_of image).tracks)) image entries_at)
    → r is r₂
entry_rooms_once image r r₂ by_one by_other = equal_once _ _ _ by_one by_other

pub all_rooms_once : (image : List ℕ) (r r₂ : Result ℕ Form)
    → (r ≡ scanned rooms image tracks_at)
    → (r₂ ≡ scanned rooms image tracks_at)
    → r is r₂
all_rooms_once image r r₂ by_one by_other = equal_once _ _ _ by_one by_other

pub stands_once : (image : List ℕ) (r r₂ : Bool)
    → (r ≡ standing image)
    → (r₂ ≡ standing image)
    → r is r₂
stands_once image r r₂ by_one by_other = equal_once _ _ _ by_one by_other
