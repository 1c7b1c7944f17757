-- Written by .ci/contracts --write: for each function of src/tracks.rt, that any two results that its contract allows are the same.
use Rattle.std.specs.Prelude.{List, ℕ, Bool, ◌≡◌ as ◌is◌, Option, ◌≡◌, true, false, not, cond, ◌&&◌, eqb, length}
use Rattle.laws.specs.Once.{equal_once}
use Rattle.laws.specs.Search.{lowest}
use Rattle.plan.specs.Kinds.{forks, legged, out, leg}
use Rattle.plan.specs.Image.{plan_of}
use Rattle.plan.specs.Records.{track_of}
use Rattle.rules.specs.Rules.{ways_differ, legs_lead, is_leg, none_leads, led_once}

pub ways_meet_once : (image : List ℕ) (track : ℕ) (r r₂ : Bool)
    → (r ≡ (forks (track_of (plan_of image) track) && eqb (out (track_of (plan_of image) track) false) (out (track_of (plan_of image) track) true)))
    → (r₂ ≡ (forks (track_of (plan_of image) track) && eqb (out (track_of (plan_of image) track) false) (out (track_of (plan_of image) track) true)))
    → r is r₂
ways_meet_once image track r r₂ by_one by_other = equal_once _ _ _ by_one by_other

pub legs_meet_once : (image : List ℕ) (track : ℕ) (r r₂ : Bool)
    → (r ≡ (legged (track_of (plan_of image) track) && eqb (leg (track_of (plan_of image) track) false) (leg (track_of (plan_of image) track) true)))
    → (r₂ ≡ (legged (track_of (plan_of image) track) && eqb (leg (track_of (plan_of image) track) false) (leg (track_of (plan_of image) track) true)))
    → r is r₂
legs_meet_once image track r r₂ by_one by_other = equal_once _ _ _ by_one by_other

pub ways_differ_once : (image : List ℕ) (track : ℕ) (r r₂ : Bool)
    → (r ≡ ways_differ (plan_of image) track)
    → (r₂ ≡ ways_differ (plan_of image) track)
    → r is r₂
ways_differ_once image track r r₂ by_one by_other = equal_once _ _ _ by_one by_other

pub legs_lead_once : (image : List ℕ) (track : ℕ) (r r₂ : Bool)
    → (r ≡ legs_lead (plan_of image) track)
    → (r₂ ≡ legs_lead (plan_of image) track)
    → r is r₂
legs_lead_once image track r r₂ by_one by_other = equal_once _ _ _ by_one by_other

pub is_leg_once : (image : List ℕ) (point track : ℕ) (r r₂ : Bool)
    → (r ≡ is_leg (plan_of image) point track)
    → (r₂ ≡ is_leg (plan_of image) point track)
    → r is r₂
is_leg_once image point track r r₂ by_one by_other = equal_once _ _ _ by_one by_other

pub misleads_once : (image : List ℕ) (to from : ℕ) (first r r₂ : Bool)
    → (r ≡ cond (legged (track_of (plan_of image) to)) (not (is_leg (plan_of image) to from)) (not first))
    → (r₂ ≡ cond (legged (track_of (plan_of image) to)) (not (is_leg (plan_of image) to from)) (not first))
    → r is r₂
misleads_once image to from first r r₂ by_one by_other = equal_once _ _ _ by_one by_other

pub first_pair_once : (image : List ℕ) (r r₂ : Option ℕ)
    → (r ≡ lowest (length (plan_of image).tracks) (λ v. not (led_once (plan_of image) v)))
    → (r₂ ≡ lowest (length (plan_of image).tracks) (λ v. not (led_once (plan_of image) v)))
    → r is r₂
first_pair_once image r r₂ by_one by_other = equal_once _ _ _ by_one by_other

pub none_leads_once : (image : List ℕ) (to : ℕ) (r r₂ : Bool)
    → (r ≡ none_leads (plan_of image) to (length (plan_of image).tracks))
    → (r₂ ≡ none_leads (plan_of image) to (length (plan_of image).tracks))
    → r is r₂
none_leads_once image to r r₂ by_one by_other = equal_once _ _ _ by_one by_other
