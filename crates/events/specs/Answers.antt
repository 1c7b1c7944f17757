-- The document's number and values for each answer, and where it brings a train or takes one away. `Answer`, `Refusal`, `Harm` and `Deed` are the
-- code's own enums (src/lib.rt).
use Rattle.std.specs.Prelude.{List, [], ◌∷◌, ℕ, None, Option, Some}
use Rattle.events.specs.declared.Refusal.{Refusal}
use Rattle.events.specs.declared.Refusal.TheVariants.{IllFormed, BadEvent, NotRed, Occupied, Held, NotGreen, HomeOccupied, TrainIn, TrainOut, Red}
use Rattle.events.specs.declared.Harm.{Harm}
use Rattle.events.specs.declared.Harm.TheVariants.{Collision, RunThrough, Derailment}
use Rattle.events.specs.declared.Deed.{Deed}
use Rattle.events.specs.declared.Deed.TheVariants.{Granted, Cancelled, Entered, Moved, Left}
use Rattle.events.specs.declared.Answer.{Answer}
use Rattle.events.specs.declared.Answer.TheVariants.{Refused, Accident, Done}

unfoldable pub refusal_number : Refusal → ℕ
refusal_number IllFormed = 10
refusal_number BadEvent = 11
refusal_number NotRed = 12
refusal_number (Occupied track train) = 13
refusal_number (Held point) = 14
refusal_number NotGreen = 15
refusal_number (HomeOccupied track) = 16
refusal_number TrainIn = 17
refusal_number TrainOut = 18
refusal_number (Red signal) = 19

unfoldable pub refusal_values : Refusal → List ℕ
refusal_values IllFormed = []
refusal_values BadEvent = []
refusal_values NotRed = []
refusal_values (Occupied track train) = track ∷ train ∷ []
refusal_values (Held point) = point ∷ []
refusal_values NotGreen = []
refusal_values (HomeOccupied track) = track ∷ []
refusal_values TrainIn = []
refusal_values TrainOut = []
refusal_values (Red signal) = signal ∷ []

unfoldable pub harm_number : Harm → ℕ
harm_number (Collision track) = 40
harm_number (RunThrough track) = 41
harm_number (Derailment point) = 42

unfoldable pub harm_values : Harm → List ℕ
harm_values (Collision track) = track ∷ []
harm_values (RunThrough track) = track ∷ []
harm_values (Derailment point) = point ∷ []

-- what the document's table doesn't number has a number from 100 on
unfoldable pub deed_number : Deed → ℕ
deed_number (Granted route) = 100
deed_number (Cancelled route) = 101
deed_number (Entered train track) = 102
deed_number (Moved train from to) = 103
deed_number (Left train from) = 104

unfoldable pub deed_values : Deed → List ℕ
deed_values (Granted route) = route ∷ []
deed_values (Cancelled route) = route ∷ []
deed_values (Entered train track) = train ∷ track ∷ []
deed_values (Moved train from to) = train ∷ from ∷ to ∷ []
deed_values (Left train from) = train ∷ from ∷ []

unfoldable pub answer_number : Answer → ℕ
answer_number (Refused refusal) = refusal_number refusal
answer_number (Accident harm) = harm_number harm
answer_number (Done deed) = deed_number deed

unfoldable pub answer_values : Answer → List ℕ
answer_values (Refused refusal) = refusal_values refusal
answer_values (Accident harm) = harm_values harm
answer_values (Done deed) = deed_values deed

-- what a deed gives; a refusal and an accident do nothing, and give `none`
abbrev pub if_done {ℓ} : {A : Type ℓ} → A → (Deed → A) → Answer → A
if_done none of (Refused refusal) = none
if_done none of (Accident harm) = none
if_done none of (Done deed) = of deed

-- Where a deed brings a train, and where it takes one away.

-- a train moves onto the track; one that enters moves onto none
unfoldable pub deed_arrives : Deed → Option ℕ
deed_arrives (Granted route) = None
deed_arrives (Cancelled route) = None
deed_arrives (Entered train track) = None
deed_arrives (Moved train from to) = Some to
deed_arrives (Left train from) = None

-- a train comes to stand on the track: it enters there, or moves onto it
unfoldable pub deed_comes : Deed → Option ℕ
deed_comes (Granted route) = None
deed_comes (Cancelled route) = None
deed_comes (Entered train track) = Some track
deed_comes (Moved train from to) = Some to
deed_comes (Left train from) = None

-- a train stands on the track no more
unfoldable pub deed_leaves : Deed → Option ℕ
deed_leaves (Granted route) = None
deed_leaves (Cancelled route) = None
deed_leaves (Entered train track) = None
deed_leaves (Moved train from to) = Some from
deed_leaves (Left train from) = Some from

abbrev pub arrives_on : Answer → Option ℕ
arrives_on answer = if_done None deed_arrives answer

abbrev pub comes_on : Answer → Option ℕ
comes_on answer = if_done None deed_comes answer

abbrev pub leaves_from : Answer → Option ℕ
leaves_from answer = if_done None deed_leaves answer
