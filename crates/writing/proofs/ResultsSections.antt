-- Written by .ci/contracts --write: for each function of src/sections.rt, that any two results that its contract allows are the same.
use Rattle.std.specs.Prelude.{ℕ, List, ◌≡◌ as ◌is◌, ◌∷◌}
use Rattle.laws.specs.Written.{wrote_once, Wrote}
use Rattle.plan.specs.Records.{route_of, entry_of}
use Rattle.plan.specs.File.{counted_file, entry_file, file_of, list_file, route_file, track_file}
use Rattle.plan.specs.Image.{plan_of}

pub put_counted_once : (count : ℕ) (bytes out : List ℕ) (at r r₂ : ℕ) (out' out'' : List ℕ)
    → (Wrote (count ∷ bytes) out at out' r)
    → (Wrote (count ∷ bytes) out at out'' r₂)
    → (out' is out'') × (r is r₂)
put_counted_once count bytes out at r r₂ out' out'' by_one by_other = wrote_once _ _ _ _ _ _ _ by_one by_other

pub put_list_once : (list out : List ℕ) (at r r₂ : ℕ) (out' out'' : List ℕ)
    → (Wrote (list_file list) out at out' r)
    → (Wrote (list_file list) out at out'' r₂)
    → (out' is out'') × (r is r₂)
put_list_once list out at r r₂ out' out'' by_one by_other = wrote_once _ _ _ _ _ _ _ by_one by_other

pub write_tracks_once : (image out : List ℕ) (r r₂ : ℕ) (out' out'' : List ℕ)
    → (Wrote (counted_file track_file (plan_of image).tracks) out 0 out' r)
    → (Wrote (counted_file track_file (plan_of image).tracks) out 0 out'' r₂)
    → (out' is out'') × (r is r₂)
write_tracks_once image out r r₂ out' out'' by_one by_other = wrote_once _ _ _ _ _ _ _ by_one by_other

pub write_signals_once : (image out : List ℕ) (r r₂ : ℕ) (out' out'' : List ℕ)
    → (Wrote (list_file (plan_of image).signals) out 0 out' r)
    → (Wrote (list_file (plan_of image).signals) out 0 out'' r₂)
    → (out' is out'') × (r is r₂)
write_signals_once image out r r₂ out' out'' by_one by_other = wrote_once _ _ _ _ _ _ _ by_one by_other

pub write_route_once : (image : List ℕ) (route : ℕ) (out : List ℕ) (at r r₂ : ℕ) (out' out'' : List ℕ)
    → (Wrote (route_file (route_of (plan_of image) route)) out at out' r)
    → (Wrote (route_file (route_of (plan_of image) route)) out at out'' r₂)
    → (out' is out'') × (r is r₂)
write_route_once image route out at r r₂ out' out'' by_one by_other = wrote_once _ _ _ _ _ _ _ by_one by_other

pub write_routes_once : (image out : List ℕ) (r r₂ : ℕ) (out' out'' : List ℕ)
    → (Wrote (counted_file route_file (plan_of image).routes) out 0 out' r)
    → (Wrote (counted_file route_file (plan_of image).routes) out 0 out'' r₂)
    → (out' is out'') × (r is r₂)
write_routes_once image out r r₂ out' out'' by_one by_other = wrote_once _ _ _ _ _ _ _ by_one by_other

pub write_entry_once : (image : List ℕ) (entry : ℕ) (out : List ℕ) (at r r₂ : ℕ) (out' out'' : List ℕ)
    → (Wrote (entry_file (entry_of (plan_of image) entry)) out at out' r)
    → (Wrote (entry_file (entry_of (plan_of image) entry)) out at out'' r₂)
    → (out' is out'') × (r is r₂)
write_entry_once image entry out at r r₂ out' out'' by_one by_other = wrote_once _ _ _ _ _ _ _ by_one by_other

pub write_entries_once : (image out : List ℕ) (r r₂ : ℕ) (out' out'' : List ℕ)
    → (Wrote (counted_file entry_file (plan_of image).entries) out 0 out' r)
    → (Wrote (counted_file entry_file (plan_of image).entries) out 0 out'' r₂)
    → (out' is out'') × (r is r₂)
write_entries_once image out r r₂ out' out'' by_one by_other = wrote_once _ _ _ _ _ _ _ by_one by_other

pub write_sections_once : (image out : List ℕ) (r r₂ : ℕ) (out' out'' : List ℕ)
    → (Wrote (file_of (plan_of image)) out 0 out' r)
    → (Wrote (file_of (plan_of image)) out 0 out'' r₂)
    → (out' is out'') × (r is r₂)
write_sections_once image out r r₂ out' out'' by_one by_other = wrote_once _ _ _ _ _ _ _ by_one by_other
