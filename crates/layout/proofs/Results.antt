-- Written by .ci/contracts --write: for each function of src/lib.rt, that any two results that its contract allows are the same.
use Rattle.std.specs.Prelude.{List, ℕ, Bool, ◌≡◌ as ◌is◌, ◌≡◌}
use Rattle.laws.specs.Once.{equal_once}
use Rattle.plan.specs.Records.{home_of, track_of}
use Rattle.plan.specs.Kinds.{plain, exit, forks, legged, out, leg}
use Rattle.plan.specs.Layout.{leads, is_home}
use Rattle.plan.specs.Image.{plan_of}

pub is_plain_once : (image : List ℕ) (track : ℕ) (r r₂ : Bool)
    → (r ≡ plain (track_of (plan_of image) track))
    → (r₂ ≡ plain (track_of (plan_of image) track))
    → r is r₂
is_plain_once image track r r₂ by_one by_other = equal_once _ _ _ by_one by_other

pub is_exit_once : (image : List ℕ) (track : ℕ) (r r₂ : Bool)
    → (r ≡ exit (track_of (plan_of image) track))
    → (r₂ ≡ exit (track_of (plan_of image) track))
    → r is r₂
is_exit_once image track r r₂ by_one by_other = equal_once _ _ _ by_one by_other

pub is_forking_once : (image : List ℕ) (track : ℕ) (r r₂ : Bool)
    → (r ≡ forks (track_of (plan_of image) track))
    → (r₂ ≡ forks (track_of (plan_of image) track))
    → r is r₂
is_forking_once image track r r₂ by_one by_other = equal_once _ _ _ by_one by_other

pub is_legged_once : (image : List ℕ) (track : ℕ) (r r₂ : Bool)
    → (r ≡ legged (track_of (plan_of image) track))
    → (r₂ ≡ legged (track_of (plan_of image) track))
    → r is r₂
is_legged_once image track r r₂ by_one by_other = equal_once _ _ _ by_one by_other

pub way_out_once : (image : List ℕ) (track : ℕ) (lie : Bool) (r r₂ : ℕ)
    → (r ≡ out (track_of (plan_of image) track) lie)
    → (r₂ ≡ out (track_of (plan_of image) track) lie)
    → r is r₂
way_out_once image track lie r r₂ by_one by_other = equal_once _ _ _ by_one by_other

pub leg_of_once : (image : List ℕ) (track : ℕ) (lie : Bool) (r r₂ : ℕ)
    → (r ≡ leg (track_of (plan_of image) track) lie)
    → (r₂ ≡ leg (track_of (plan_of image) track) lie)
    → r is r₂
leg_of_once image track lie r r₂ by_one by_other = equal_once _ _ _ by_one by_other

pub leads_to_once : (image : List ℕ) (from to : ℕ) (r r₂ : Bool)
    → (r ≡ leads (plan_of image) from to)
    → (r₂ ≡ leads (plan_of image) from to)
    → r is r₂
leads_to_once image from to r r₂ by_one by_other = equal_once _ _ _ by_one by_other

pub home_of_once : (image : List ℕ) (signal r r₂ : ℕ)
    → (r ≡ home_of (plan_of image) signal)
    → (r₂ ≡ home_of (plan_of image) signal)
    → r is r₂
home_of_once image signal r r₂ by_one by_other = equal_once _ _ _ by_one by_other

pub is_home_once : (image : List ℕ) (track : ℕ) (r r₂ : Bool)
    → (r ≡ is_home (plan_of image) track)
    → (r₂ ≡ is_home (plan_of image) track)
    → r is r₂
is_home_once image track r r₂ by_one by_other = equal_once _ _ _ by_one by_other
