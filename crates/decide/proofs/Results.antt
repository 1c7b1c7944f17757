-- Written by .ci/contracts --write: for each function of src/lib.rt, that any two results that its contract allows are the same.
use Rattle.decide.specs.declared.Junction.{Junction}
use Rattle.std.specs.Prelude.{ℕ, Result, ◌≡◌ as ◌is◌, [], ◌≡◌, List}
use Rattle.events.specs.declared.Deed.{Deed}
use Rattle.events.specs.declared.Answer.{Answer}
use Rattle.laws.specs.Once.{equal_once, any_once}
use Rattle.events.specs.declared.Event.{Event}
use Rattle.events.specs.declared.Event.TheVariants.{Request, Cancel, Enter, Move}
use Rattle.events.specs.Decide.{decided}
use Rattle.decide.specs.Chain.{chained}
use Rattle.decide.specs.Lent.{plan, state, state_with}

pub junction_request_once : (self : Junction) (route : ℕ) (r r₂ : Result Deed Answer)
    → (r ≡ chained (decided (plan self) (state self) (Request route)))
    → (r₂ ≡ chained (decided (plan self) (state self) (Request route)))
    → r is r₂
junction_request_once self route r r₂ by_one by_other = equal_once _ _ _ by_one by_other

pub junction_cancel_once : (self : Junction) (route : ℕ) (r r₂ : Result Deed Answer)
    → ((holds : List ℕ) → r ≡ chained (decided (plan self) (state_with self holds) (Cancel route)))
    → ((holds : List ℕ) → r₂ ≡ chained (decided (plan self) (state_with self holds) (Cancel route)))
    → r is r₂
junction_cancel_once self route r r₂ by_one by_other = any_once [] _ _ _ by_one by_other

pub junction_enter_once : (self : Junction) (entry train : ℕ) (r r₂ : Result Deed Answer)
    → ((holds : List ℕ) → r ≡ chained (decided (plan self) (state_with self holds) (Enter entry train)))
    → ((holds : List ℕ) → r₂ ≡ chained (decided (plan self) (state_with self holds) (Enter entry train)))
    → r is r₂
junction_enter_once self entry train r r₂ by_one by_other = any_once [] _ _ _ by_one by_other

pub junction_go_once : (self : Junction) (train : ℕ) (r r₂ : Result Deed Answer)
    → ((holds : List ℕ) → r ≡ chained (decided (plan self) (state_with self holds) (Move train)))
    → ((holds : List ℕ) → r₂ ≡ chained (decided (plan self) (state_with self holds) (Move train)))
    → r is r₂
junction_go_once self train r r₂ by_one by_other = any_once [] _ _ _ by_one by_other

pub junction_decide_once : (self : Junction) (event : Event) (r r₂ : Answer)
    → (r ≡ decided (plan self) (state self) event)
    → (r₂ ≡ decided (plan self) (state self) event)
    → r is r₂
junction_decide_once self event r r₂ by_one by_other = equal_once _ _ _ by_one by_other
