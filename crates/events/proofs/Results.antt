-- Written by .ci/contracts --write: for each function of src/lib.rt, that any two results that its contract allows are the same.
use Rattle.events.specs.declared.Refusal.{Refusal}
use Rattle.events.specs.declared.Answer.{Answer}
use Rattle.std.specs.Prelude.{◌≡◌ as ◌is◌, ℕ, List, ◌≡◌, length, get_or, drop}
use Rattle.laws.specs.Once.{equal_once}
use Rattle.events.specs.declared.Harm.{Harm}
use Rattle.events.specs.declared.Deed.{Deed}
use Rattle.events.specs.declared.Event.{Event}
use Rattle.events.specs.Events.{event_of, first_event, events_of}
use Rattle.events.specs.Answers.{refusal_number, harm_number, deed_number}
use Rattle.events.specs.declared.Answer.TheVariants.{Refused, Accident}

pub answer_from_refusal_once : (refusal : Refusal) (r r₂ : Answer)
    → (r ≡ Refused refusal)
    → (r₂ ≡ Refused refusal)
    → r is r₂
answer_from_refusal_once refusal r r₂ by_one by_other = equal_once _ _ _ by_one by_other

pub answer_from_harm_once : (harm : Harm) (r r₂ : Answer)
    → (r ≡ Accident harm)
    → (r₂ ≡ Accident harm)
    → r is r₂
answer_from_harm_once harm r r₂ by_one by_other = equal_once _ _ _ by_one by_other

pub refusal_number_once : (self : Refusal) (r r₂ : ℕ)
    → (r ≡ refusal_number self)
    → (r₂ ≡ refusal_number self)
    → r is r₂
refusal_number_once self r r₂ by_one by_other = equal_once _ _ _ by_one by_other

pub harm_number_once : (self : Harm) (r r₂ : ℕ)
    → (r ≡ harm_number self)
    → (r₂ ≡ harm_number self)
    → r is r₂
harm_number_once self r r₂ by_one by_other = equal_once _ _ _ by_one by_other

pub deed_number_once : (self : Deed) (r r₂ : ℕ)
    → (r ≡ deed_number self)
    → (r₂ ≡ deed_number self)
    → r is r₂
deed_number_once self r r₂ by_one by_other = equal_once _ _ _ by_one by_other

pub event_from_once : (bytes : List ℕ) (r r₂ : Event)
    → (r ≡ event_of (get_or bytes 0 0) (get_or bytes 1 0) (get_or bytes 2 0))
    → (r₂ ≡ event_of (get_or bytes 0 0) (get_or bytes 1 0) (get_or bytes 2 0))
    → r is r₂
event_from_once bytes r r₂ by_one by_other = equal_once _ _ _ by_one by_other

pub event_at_once : (bytes : List ℕ) (at : ℕ) (r r₂ : Event)
    → (r ≡ first_event (drop at bytes))
    → (r₂ ≡ first_event (drop at bytes))
    → r is r₂
event_at_once bytes at r r₂ by_one by_other = equal_once _ _ _ by_one by_other

pub event_count_once : (bytes : List ℕ) (r r₂ : ℕ)
    → (r ≡ length (events_of bytes))
    → (r₂ ≡ length (events_of bytes))
    → r is r₂
event_count_once bytes r r₂ by_one by_other = equal_once _ _ _ by_one by_other
