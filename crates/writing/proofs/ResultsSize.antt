-- Written by .ci/contracts --write: for each function of src/size.rt, that any two results that its contract allows are the same.
use Rattle.std.specs.Prelude.{List, ℕ, ◌≡◌ as ◌is◌, ◌≡◌, length}
use Rattle.laws.specs.Once.{equal_once}
use Rattle.laws.specs.Lists.{joined}
use Rattle.plan.specs.Records.{route_of, entry_of}
use Rattle.plan.specs.File.{entry_file, file_of, route_file}
use Rattle.plan.specs.Image.{plan_of}

pub route_size_once : (image : List ℕ) (route r r₂ : ℕ)
    → (r ≡ length (route_file (route_of (plan_of image) route)))
    → (r₂ ≡ length (route_file (route_of (plan_of image) route)))
    → r is r₂
route_size_once image route r r₂ by_one by_other = equal_once _ _ _ by_one by_other

pub entry_size_once : (image : List ℕ) (entry r r₂ : ℕ)
    → (r ≡ length (entry_file (entry_of (plan_of image) entry)))
    → (r₂ ≡ length (entry_file (entry_of (plan_of image) entry)))
    → r is r₂
entry_size_once image entry r r₂ by_one by_other = equal_once _ _ _ by_one by_other

pub routes_size_once : (image : List ℕ) (r r₂ : ℕ)
    → (r ≡ length (joined route_file (plan_of image).routes))
    → (r₂ ≡ length (joined route_file (plan_of image).routes))
    → r is r₂
routes_size_once image r r₂ by_one by_other = equal_once _ _ _ by_one by_other

pub entries_size_once : (image : List ℕ) (r r₂ : ℕ)
    → (r ≡ length (joined entry_file (plan_of image).entries))
    → (r₂ ≡ length (joined entry_file (plan_of image).entries))
    → r is r₂
entries_size_once image r r₂ by_one by_other = equal_once _ _ _ by_one by_other

pub file_size_once : (image : List ℕ) (r r₂ : ℕ)
    → (r ≡ length (file_of (plan_of image)))
    → (r₂ ≡ length (file_of (plan_of image)))
    → r is r₂
file_size_once image r r₂ by_one by_other = equal_once _ _ _ by_one by_other
