-- Written by .ci/contracts --write: for each function of src/lib.rt, that any two results that its contract allows are the same.
use Rattle.std.specs.Prelude.{List, ℕ, ◌≡◌ as ◌is◌, Bool, ◌≡◌, ◌-◌}
use Rattle.laws.specs.Once.{equal_once}
use Rattle.laws.specs.Lists.{all_of, different}
use Rattle.laws.specs.Search.{all_below}
use Rattle.plan.specs.Records.{route_of}
use Rattle.plan.specs.Image.{plan_of}
use Rattle.plan.specs.Routes.{points_of, listed, released, path_length, way_of, track_at}
use Rattle.rules.specs.Rules.{later, wants, listed_out, listed_in, linked_at, path_linked, no_home_at, ends, path_ends, path_clear, facing_listed, trailing_listed, points_listed, points_clear, release_fits, releases_fit}

pub track_at_once : (image : List ℕ) (route place r r₂ : ℕ)
    → (r ≡ track_at (plan_of image) route place)
    → (r₂ ≡ track_at (plan_of image) route place)
    → r is r₂
track_at_once image route place r r₂ by_one by_other = equal_once _ _ _ by_one by_other

pub linked_at_once : (image : List ℕ) (route i : ℕ) (r r₂ : Bool)
    → (r ≡ linked_at (plan_of image) route i)
    → (r₂ ≡ linked_at (plan_of image) route i)
    → r is r₂
linked_at_once image route i r r₂ by_one by_other = equal_once _ _ _ by_one by_other

pub links_once : (image : List ℕ) (route : ℕ) (r r₂ : Bool)
    → (r ≡ all_below (path_length (plan_of image) route) (linked_at (plan_of image) route))
    → (r₂ ≡ all_below (path_length (plan_of image) route) (linked_at (plan_of image) route))
    → r is r₂
links_once image route r r₂ by_one by_other = equal_once _ _ _ by_one by_other

pub way_differs_once : (image : List ℕ) (route : ℕ) (r r₂ : Bool)
    → (r ≡ different (way_of (plan_of image) route))
    → (r₂ ≡ different (way_of (plan_of image) route))
    → r is r₂
way_differs_once image route r r₂ by_one by_other = equal_once _ _ _ by_one by_other

pub path_linked_once : (image : List ℕ) (route : ℕ) (r r₂ : Bool)
    → (r ≡ path_linked (plan_of image) route)
    → (r₂ ≡ path_linked (plan_of image) route)
    → r is r₂
path_linked_once image route r r₂ by_one by_other = equal_once _ _ _ by_one by_other

pub passes_once : (image : List ℕ) (route : ℕ) (r r₂ : Bool)
    → (r ≡ all_below (path_length (plan_of image) route - 1) (no_home_at (plan_of image) route))
    → (r₂ ≡ all_below (path_length (plan_of image) route - 1) (no_home_at (plan_of image) route))
    → r is r₂
passes_once image route r r₂ by_one by_other = equal_once _ _ _ by_one by_other

pub ends_at_once : (image : List ℕ) (track : ℕ) (r r₂ : Bool)
    → (r ≡ ends (plan_of image) track)
    → (r₂ ≡ ends (plan_of image) track)
    → r is r₂
ends_at_once image track r r₂ by_one by_other = equal_once _ _ _ by_one by_other

pub path_ends_once : (image : List ℕ) (route : ℕ) (r r₂ : Bool)
    → (r ≡ path_ends (plan_of image) route)
    → (r₂ ≡ path_ends (plan_of image) route)
    → r is r₂
path_ends_once image route r r₂ by_one by_other = equal_once _ _ _ by_one by_other

pub path_clear_once : (image : List ℕ) (route : ℕ) (r r₂ : Bool)
    → (r ≡ path_clear (plan_of image) route)
    → (r₂ ≡ path_clear (plan_of image) route)
    → r is r₂
path_clear_once image route r r₂ by_one by_other = equal_once _ _ _ by_one by_other

pub points_of_once : (image : List ℕ) (route : ℕ) (lie : Bool) (r r₂ : List ℕ)
    → (r ≡ points_of (plan_of image) route lie)
    → (r₂ ≡ points_of (plan_of image) route lie)
    → r is r₂
points_of_once image route lie r r₂ by_one by_other = equal_once _ _ _ by_one by_other

pub wants_lie_once : (image : List ℕ) (route point : ℕ) (lie r r₂ : Bool)
    → (r ≡ wants (plan_of image) route point lie)
    → (r₂ ≡ wants (plan_of image) route point lie)
    → r is r₂
wants_lie_once image route point lie r r₂ by_one by_other = equal_once _ _ _ by_one by_other

pub listed_out_once : (image : List ℕ) (route point to : ℕ) (r r₂ : Bool)
    → (r ≡ listed_out (plan_of image) route point to)
    → (r₂ ≡ listed_out (plan_of image) route point to)
    → r is r₂
listed_out_once image route point to r r₂ by_one by_other = equal_once _ _ _ by_one by_other

pub listed_in_once : (image : List ℕ) (route point from : ℕ) (r r₂ : Bool)
    → (r ≡ listed_in (plan_of image) route point from)
    → (r₂ ≡ listed_in (plan_of image) route point from)
    → r is r₂
listed_in_once image route point from r r₂ by_one by_other = equal_once _ _ _ by_one by_other

pub facing_listed_once : (image : List ℕ) (route i : ℕ) (r r₂ : Bool)
    → (r ≡ facing_listed (plan_of image) route i)
    → (r₂ ≡ facing_listed (plan_of image) route i)
    → r is r₂
facing_listed_once image route i r r₂ by_one by_other = equal_once _ _ _ by_one by_other

pub facing_all_once : (image : List ℕ) (route : ℕ) (r r₂ : Bool)
    → (r ≡ all_below (path_length (plan_of image) route) (facing_listed (plan_of image) route))
    → (r₂ ≡ all_below (path_length (plan_of image) route) (facing_listed (plan_of image) route))
    → r is r₂
facing_all_once image route r r₂ by_one by_other = equal_once _ _ _ by_one by_other

pub trailing_listed_once : (image : List ℕ) (route i : ℕ) (r r₂ : Bool)
    → (r ≡ trailing_listed (plan_of image) route i)
    → (r₂ ≡ trailing_listed (plan_of image) route i)
    → r is r₂
trailing_listed_once image route i r r₂ by_one by_other = equal_once _ _ _ by_one by_other

pub trailing_all_once : (image : List ℕ) (route : ℕ) (r r₂ : Bool)
    → (r ≡ all_below (path_length (plan_of image) route) (trailing_listed (plan_of image) route))
    → (r₂ ≡ all_below (path_length (plan_of image) route) (trailing_listed (plan_of image) route))
    → r is r₂
trailing_all_once image route r r₂ by_one by_other = equal_once _ _ _ by_one by_other

pub points_listed_once : (image : List ℕ) (route : ℕ) (r r₂ : Bool)
    → (r ≡ points_listed (plan_of image) route)
    → (r₂ ≡ points_listed (plan_of image) route)
    → r is r₂
points_listed_once image route r r₂ by_one by_other = equal_once _ _ _ by_one by_other

pub points_clear_once : (image : List ℕ) (route : ℕ) (r r₂ : Bool)
    → (r ≡ points_clear (plan_of image) route)
    → (r₂ ≡ points_clear (plan_of image) route)
    → r is r₂
points_clear_once image route r r₂ by_one by_other = equal_once _ _ _ by_one by_other

pub is_listed_once : (image : List ℕ) (route point : ℕ) (r r₂ : Bool)
    → (r ≡ listed (route_of (plan_of image) route).normal (route_of (plan_of image) route).reverse point)
    → (r₂ ≡ listed (route_of (plan_of image) route).normal (route_of (plan_of image) route).reverse point)
    → r is r₂
is_listed_once image route point r r₂ by_one by_other = equal_once _ _ _ by_one by_other

pub later_once : (track point : ℕ) (path : List ℕ) (r r₂ : Bool)
    → (r ≡ later track point path)
    → (r₂ ≡ later track point path)
    → r is r₂
later_once track point path r r₂ by_one by_other = equal_once _ _ _ by_one by_other

pub release_fits_once : (image : List ℕ) (route track point : ℕ) (r r₂ : Bool)
    → (r ≡ release_fits (plan_of image) route track point)
    → (r₂ ≡ release_fits (plan_of image) route track point)
    → r is r₂
release_fits_once image route track point r r₂ by_one by_other = equal_once _ _ _ by_one by_other

pub releases_all_once : (image : List ℕ) (route : ℕ) (r r₂ : Bool)
    → (r ≡ all_of (λ q. release_fits (plan_of image) route q.track q.point) (route_of (plan_of image) route).releases)
    → (r₂ ≡ all_of (λ q. release_fits (plan_of image) route q.track q.point) (route_of (plan_of image) route).releases)
    → r is r₂
releases_all_once image route r r₂ by_one by_other = equal_once _ _ _ by_one by_other

pub is_released_once : (image : List ℕ) (route point : ℕ) (r r₂ : Bool)
    → (r ≡ released (plan_of image) route point)
    → (r₂ ≡ released (plan_of image) route point)
    → r is r₂
is_released_once image route point r r₂ by_one by_other = equal_once _ _ _ by_one by_other

pub released_all_once : (image : List ℕ) (route : ℕ) (lie r r₂ : Bool)
    → (r ≡ all_of (released (plan_of image) route) (points_of (plan_of image) route lie))
    → (r₂ ≡ all_of (released (plan_of image) route) (points_of (plan_of image) route lie))
    → r is r₂
released_all_once image route lie r r₂ by_one by_other = equal_once _ _ _ by_one by_other

pub releases_fit_once : (image : List ℕ) (route : ℕ) (r r₂ : Bool)
    → (r ≡ releases_fit (plan_of image) route)
    → (r₂ ≡ releases_fit (plan_of image) route)
    → r is r₂
releases_fit_once image route r r₂ by_one by_other = equal_once _ _ _ by_one by_other
