-- Written by .ci/contracts --write: for each function of src/lib.rt, that any two results that its contract allows are the same.
use Rattle.std.specs.Prelude.{ℕ, ◌≡◌ as ◌is◌, Bool, ◌≡◌}
use Rattle.state.specs.declared.HoldSet.{HoldSet}
use Rattle.state.proofs.Lent.{routes_once}
use Rattle.laws.specs.Once.{equal_once}
use Rattle.laws.specs.Sets.{member, excluding}
use Rattle.state.specs.Holds.{adding, empty, within}

pub holdset_from_once : (routes : ℕ) (r r₂ : HoldSet)
    → (r.routes ≡ routes)
    → (r₂.routes ≡ routes)
    → r is r₂
holdset_from_once routes r r₂ by_one by_other = routes_once _ _ _ by_one by_other

pub holdset_has_once : (self : HoldSet) (route : ℕ) (r r₂ : Bool)
    → (r ≡ member self.routes route)
    → (r₂ ≡ member self.routes route)
    → r is r₂
holdset_has_once self route r r₂ by_one by_other = equal_once _ _ _ by_one by_other

pub holdset_with_once : (self : HoldSet) (route : ℕ) (r r₂ : HoldSet)
    → (r.routes ≡ adding self.routes route)
    → (r₂.routes ≡ adding self.routes route)
    → r is r₂
holdset_with_once self route r r₂ by_one by_other = routes_once _ _ _ by_one by_other

pub holdset_without_once : (self : HoldSet) (route : ℕ) (r r₂ : HoldSet)
    → (r.routes ≡ excluding self.routes route)
    → (r₂.routes ≡ excluding self.routes route)
    → r is r₂
holdset_without_once self route r r₂ by_one by_other = routes_once _ _ _ by_one by_other

pub holdset_is_empty_once : (self : HoldSet) (r r₂ : Bool)
    → (r ≡ empty self.routes)
    → (r₂ ≡ empty self.routes)
    → r is r₂
holdset_is_empty_once self r r₂ by_one by_other = equal_once _ _ _ by_one by_other

pub holdset_within_once : (self : HoldSet) (routes : ℕ) (r r₂ : Bool)
    → (r ≡ within routes self.routes)
    → (r₂ ≡ within routes self.routes)
    → r is r₂
holdset_within_once self routes r r₂ by_one by_other = equal_once _ _ _ by_one by_other
