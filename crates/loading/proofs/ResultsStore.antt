-- Written by .ci/contracts --write: for each function of src/store.rt, that any two results that its contract allows are the same.
use Rattle.std.specs.Prelude.{List, ℕ, ◌≡◌ as ◌is◌, ◌≡◌, ◌+◌, get_or, set}
use Rattle.laws.specs.Once.{equal_once}
use Rattle.std.specs.Borrow.{MutBor}
use Rattle.loading.specs.Storing.{list_end, copy_list, route_end, copy_route, copy_routes, entry_end, copy_entry, copy_entries, IsCopy, copied}

pub store_list_once : (file : List ℕ) (at size : ℕ) (image : List ℕ) (to r r₂ : ℕ) (image' image'' : List ℕ)
    → ((r ≡ list_end size file at) × (image' ≡ copy_list size file at to image))
    → ((r₂ ≡ list_end size file at) × (image'' ≡ copy_list size file at to image))
    → (r is r₂) × (image' is image'')
store_list_once file at size image to r r₂ image' image'' by_one by_other = (equal_once _ _ _ by_one.0 by_other.0, equal_once _ _ _ by_one.1 by_other.1)

pub store_route_once : (file : List ℕ) (at : ℕ) (image : List ℕ) (to r r₂ : ℕ) (image' image'' : List ℕ)
    → ((r ≡ route_end file at) × (image' ≡ copy_route file at to image))
    → ((r₂ ≡ route_end file at) × (image'' ≡ copy_route file at to image))
    → (r is r₂) × (image' is image'')
store_route_once file at image to r r₂ image' image'' by_one by_other = (equal_once _ _ _ by_one.0 by_other.0, equal_once _ _ _ by_one.1 by_other.1)

pub store_entry_once : (file : List ℕ) (at : ℕ) (image : List ℕ) (to r r₂ : ℕ) (image' image'' : List ℕ)
    → ((r ≡ entry_end file at) × (image' ≡ copy_entry file at to image))
    → ((r₂ ≡ entry_end file at) × (image'' ≡ copy_entry file at to image))
    → (r is r₂) × (image' is image'')
store_entry_once file at image to r r₂ image' image'' by_one by_other = (equal_once _ _ _ by_one.0 by_other.0, equal_once _ _ _ by_one.1 by_other.1)

pub store_parts_once : (F : Type 0) (F_post : F → ℕ → (MutBor (List ℕ)) → ℕ → ℕ → (MutBor (List ℕ)) → Type 0) (file : List ℕ) (from : ℕ) (image : List ℕ) (to size : ℕ) (store : F) (image' image'' : List ℕ) (end : ℕ → ℕ) (copy : ℕ → ℕ → List ℕ → List ℕ)
    → IsCopy (F_post store) end copy
    → ((end : ℕ → ℕ) (copy : ℕ → ℕ → List ℕ → List ℕ) → IsCopy (F_post store) end copy → image' ≡ copied end copy size (get_or file from 0) (from + 1) (to + 1) (set image to (get_or file from 0)))
    → ((end : ℕ → ℕ) (copy : ℕ → ℕ → List ℕ → List ℕ) → IsCopy (F_post store) end copy → image'' ≡ copied end copy size (get_or file from 0) (from + 1) (to + 1) (set image to (get_or file from 0)))
    → image' is image''
store_parts_once F F_post file from image to size store image' image'' end copy meets_end_copy by_one by_other = equal_once _ _ _ (by_one end copy meets_end_copy) (by_other end copy meets_end_copy)

pub store_routes_once : (file : List ℕ) (from : ℕ) (image image' image'' : List ℕ)
    → (image' ≡ copy_routes file from image)
    → (image'' ≡ copy_routes file from image)
    → image' is image''
store_routes_once file from image image' image'' by_one by_other = equal_once _ _ _ by_one by_other

pub store_entries_once : (file : List ℕ) (from : ℕ) (image image' image'' : List ℕ)
    → (image' ≡ copy_entries file from image)
    → (image'' ≡ copy_entries file from image)
    → image' is image''
store_entries_once file from image image' image'' by_one by_other = equal_once _ _ _ by_one by_other
