-- Written by .ci/contracts --write: for each function of src/form.rt, that any two results that its contract allows are the same.
use Rattle.std.specs.Prelude.{List, ℕ, Bool, ◌≡◌ as ◌is◌, ◌≡◌, ◌&&◌, length}
use Rattle.laws.specs.Once.{equal_once}
use Rattle.laws.specs.Lists.{all_of, empty_from}
use Rattle.plan.specs.Image.{plan_of}
use Rattle.state.specs.Holds.{within}
use Rattle.state.specs.State.{again, once, point_or, points_only, green_names, greens_name, well_formed}
use Rattle.state.specs.Cells.{trains_in, lies_in, signals_in, state_in}

pub again_once : (trains : List ℕ) (track : ℕ) (r r₂ : Bool)
    → (r ≡ again trains track)
    → (r₂ ≡ again trains track)
    → r is r₂
again_once trains track r r₂ by_one by_other = equal_once _ _ _ by_one by_other

pub once_once : (trains : List ℕ) (r r₂ : Bool)
    → (r ≡ once trains)
    → (r₂ ≡ once trains)
    → r is r₂
once_once trains r r₂ by_one by_other = equal_once _ _ _ by_one by_other

pub all_within_once : (routes : ℕ) (holds : List ℕ) (r r₂ : Bool)
    → (r ≡ all_of (within routes) holds)
    → (r₂ ≡ all_of (within routes) holds)
    → r is r₂
all_within_once routes holds r r₂ by_one by_other = equal_once _ _ _ by_one by_other

pub empty_beyond_once : (image cells holds : List ℕ) (r r₂ : Bool)
    → (r ≡ (empty_from (length (plan_of image).tracks) (trains_in cells) && empty_from (length (plan_of image).tracks) (lies_in cells) && empty_from (length (plan_of image).tracks) holds && empty_from (length (plan_of image).signals) (signals_in cells)))
    → (r₂ ≡ (empty_from (length (plan_of image).tracks) (trains_in cells) && empty_from (length (plan_of image).tracks) (lies_in cells) && empty_from (length (plan_of image).tracks) holds && empty_from (length (plan_of image).signals) (signals_in cells)))
    → r is r₂
empty_beyond_once image cells holds r r₂ by_one by_other = equal_once _ _ _ by_one by_other

pub point_or_once : (image cells holds : List ℕ) (track : ℕ) (r r₂ : Bool)
    → (r ≡ point_or (plan_of image) (lies_in cells) holds track)
    → (r₂ ≡ point_or (plan_of image) (lies_in cells) holds track)
    → r is r₂
point_or_once image cells holds track r r₂ by_one by_other = equal_once _ _ _ by_one by_other

pub points_only_once : (image cells holds : List ℕ) (r r₂ : Bool)
    → (r ≡ points_only (plan_of image) (lies_in cells) holds)
    → (r₂ ≡ points_only (plan_of image) (lies_in cells) holds)
    → r is r₂
points_only_once image cells holds r r₂ by_one by_other = equal_once _ _ _ by_one by_other

pub green_names_once : (image : List ℕ) (signal shown : ℕ) (r r₂ : Bool)
    → (r ≡ green_names (plan_of image) signal shown)
    → (r₂ ≡ green_names (plan_of image) signal shown)
    → r is r₂
green_names_once image signal shown r r₂ by_one by_other = equal_once _ _ _ by_one by_other

pub greens_name_once : (image cells : List ℕ) (r r₂ : Bool)
    → (r ≡ greens_name (plan_of image) (signals_in cells))
    → (r₂ ≡ greens_name (plan_of image) (signals_in cells))
    → r is r₂
greens_name_once image cells r r₂ by_one by_other = equal_once _ _ _ by_one by_other

pub well_formed_once : (image cells holds : List ℕ) (r r₂ : Bool)
    → (r ≡ well_formed (plan_of image) (state_in cells holds))
    → (r₂ ≡ well_formed (plan_of image) (state_in cells holds))
    → r is r₂
well_formed_once image cells holds r r₂ by_one by_other = equal_once _ _ _ by_one by_other
