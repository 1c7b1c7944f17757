-- Written by .ci/contracts --write: for each function of src/image.rt, that any two results that its contract allows are the same.
use Rattle.std.specs.Prelude.{List, ℕ, ◌≡◌ as ◌is◌, Bool, ◌≡◌, length}
use Rattle.laws.specs.Once.{equal_once}
use Rattle.plan.specs.declared.Track.{Track}
use Rattle.plan.specs.Kinds.{is_point}
use Rattle.plan.specs.Records.{track_of, route_of, entry_of}
use Rattle.plan.specs.File.{track_file, release_file}
use Rattle.plan.specs.Image.{count_in, list_in, releases_in, plan_of, route_list}
use Rattle.laws.specs.Lists.{joined}

pub count_at_once : (image : List ℕ) (at most r r₂ : ℕ)
    → (r ≡ count_in image at most)
    → (r₂ ≡ count_in image at most)
    → r is r₂
count_at_once image at most r r₂ by_one by_other = equal_once _ _ _ by_one by_other

pub list_at_once : (image : List ℕ) (at most : ℕ) (r r₂ : List ℕ)
    → (r ≡ list_in image at most)
    → (r₂ ≡ list_in image at most)
    → r is r₂
list_at_once image at most r r₂ by_one by_other = equal_once _ _ _ by_one by_other

pub pairs_at_once : (image : List ℕ) (at most : ℕ) (r r₂ : List ℕ)
    → (r ≡ joined release_file (releases_in image at most))
    → (r₂ ≡ joined release_file (releases_in image at most))
    → r is r₂
pairs_at_once image at most r r₂ by_one by_other = equal_once _ _ _ by_one by_other

pub track_of_once : (image : List ℕ) (track : ℕ) (r r₂ : Track)
    → (r ≡ track_of (plan_of image) track)
    → (r₂ ≡ track_of (plan_of image) track)
    → r is r₂
track_of_once image track r r₂ by_one by_other = equal_once _ _ _ by_one by_other

pub track_rows_once : (image r r₂ : List ℕ)
    → (r ≡ joined track_file (plan_of image).tracks)
    → (r₂ ≡ joined track_file (plan_of image).tracks)
    → r is r₂
track_rows_once image r r₂ by_one by_other = equal_once _ _ _ by_one by_other

pub tracks_once : (image : List ℕ) (r r₂ : ℕ)
    → (r ≡ length (plan_of image).tracks)
    → (r₂ ≡ length (plan_of image).tracks)
    → r is r₂
tracks_once image r r₂ by_one by_other = equal_once _ _ _ by_one by_other

pub signals_once : (image : List ℕ) (r r₂ : ℕ)
    → (r ≡ length (plan_of image).signals)
    → (r₂ ≡ length (plan_of image).signals)
    → r is r₂
signals_once image r r₂ by_one by_other = equal_once _ _ _ by_one by_other

pub routes_once : (image : List ℕ) (r r₂ : ℕ)
    → (r ≡ length (plan_of image).routes)
    → (r₂ ≡ length (plan_of image).routes)
    → r is r₂
routes_once image r r₂ by_one by_other = equal_once _ _ _ by_one by_other

pub entries_once : (image : List ℕ) (r r₂ : ℕ)
    → (r ≡ length (plan_of image).entries)
    → (r₂ ≡ length (plan_of image).entries)
    → r is r₂
entries_once image r r₂ by_one by_other = equal_once _ _ _ by_one by_other

pub homes_once : (image r r₂ : List ℕ)
    → (r ≡ (plan_of image).signals)
    → (r₂ ≡ (plan_of image).signals)
    → r is r₂
homes_once image r r₂ by_one by_other = equal_once _ _ _ by_one by_other

pub route_list_once : (image : List ℕ) (route at most : ℕ) (r r₂ : List ℕ)
    → (r ≡ route_list image route at most)
    → (r₂ ≡ route_list image route at most)
    → r is r₂
route_list_once image route at most r r₂ by_one by_other = equal_once _ _ _ by_one by_other

pub start_byte_once : (image : List ℕ) (route r r₂ : ℕ)
    → (r ≡ (route_of (plan_of image) route).start)
    → (r₂ ≡ (route_of (plan_of image) route).start)
    → r is r₂
start_byte_once image route r r₂ by_one by_other = equal_once _ _ _ by_one by_other

pub start_of_once : (image : List ℕ) (route r r₂ : ℕ)
    → (r ≡ (route_of (plan_of image) route).start)
    → (r₂ ≡ (route_of (plan_of image) route).start)
    → r is r₂
start_of_once image route r r₂ by_one by_other = equal_once _ _ _ by_one by_other

pub path_of_once : (image : List ℕ) (route : ℕ) (r r₂ : List ℕ)
    → (r ≡ (route_of (plan_of image) route).path)
    → (r₂ ≡ (route_of (plan_of image) route).path)
    → r is r₂
path_of_once image route r r₂ by_one by_other = equal_once _ _ _ by_one by_other

pub clear_of_once : (image : List ℕ) (route : ℕ) (r r₂ : List ℕ)
    → (r ≡ (route_of (plan_of image) route).clear)
    → (r₂ ≡ (route_of (plan_of image) route).clear)
    → r is r₂
clear_of_once image route r r₂ by_one by_other = equal_once _ _ _ by_one by_other

pub normal_of_once : (image : List ℕ) (route : ℕ) (r r₂ : List ℕ)
    → (r ≡ (route_of (plan_of image) route).normal)
    → (r₂ ≡ (route_of (plan_of image) route).normal)
    → r is r₂
normal_of_once image route r r₂ by_one by_other = equal_once _ _ _ by_one by_other

pub reverse_of_once : (image : List ℕ) (route : ℕ) (r r₂ : List ℕ)
    → (r ≡ (route_of (plan_of image) route).reverse)
    → (r₂ ≡ (route_of (plan_of image) route).reverse)
    → r is r₂
reverse_of_once image route r r₂ by_one by_other = equal_once _ _ _ by_one by_other

pub releases_of_once : (image : List ℕ) (route : ℕ) (r r₂ : List ℕ)
    → (r ≡ joined release_file (route_of (plan_of image) route).releases)
    → (r₂ ≡ joined release_file (route_of (plan_of image) route).releases)
    → r is r₂
releases_of_once image route r r₂ by_one by_other = equal_once _ _ _ by_one by_other

pub entry_byte_once : (image : List ℕ) (entry r r₂ : ℕ)
    → (r ≡ (entry_of (plan_of image) entry).track)
    → (r₂ ≡ (entry_of (plan_of image) entry).track)
    → r is r₂
entry_byte_once image entry r r₂ by_one by_other = equal_once _ _ _ by_one by_other

pub entry_track_once : (image : List ℕ) (entry r r₂ : ℕ)
    → (r ≡ (entry_of (plan_of image) entry).track)
    → (r₂ ≡ (entry_of (plan_of image) entry).track)
    → r is r₂
entry_track_once image entry r r₂ by_one by_other = equal_once _ _ _ by_one by_other

pub entry_clear_once : (image : List ℕ) (entry : ℕ) (r r₂ : List ℕ)
    → (r ≡ (entry_of (plan_of image) entry).clear)
    → (r₂ ≡ (entry_of (plan_of image) entry).clear)
    → r is r₂
entry_clear_once image entry r r₂ by_one by_other = equal_once _ _ _ by_one by_other

pub is_point_once : (image : List ℕ) (track : ℕ) (r r₂ : Bool)
    → (r ≡ is_point (plan_of image).tracks track)
    → (r₂ ≡ is_point (plan_of image).tracks track)
    → r is r₂
is_point_once image track r r₂ by_one by_other = equal_once _ _ _ by_one by_other
