-- What the box does at its public face, for any bytes as a plan, any state and any bytes as events: `load` and `write` bring a plan into memory and back
-- into a file; `fresh` begins; `step` plays one event; `run`
-- and `feed` play many, `finish` what is unfinished, and all of it or nothing: they differ in which events and in what they write of each answer;
-- `open` writes the line for the plan.
use Rattle.std.specs.Prelude.{ℕ, zero, suc, ◌/◌, ◌≡◌, cond, List, [], ◌∷◌, ◌++◌, length, get_or, ltb, Result, Ok, Err}
use Rattle.laws.specs.Lists.{joined}
use Rattle.plan.specs.Records.{Plan}
use Rattle.reading.specs.Reading.{Got, form, got, parse}
use Rattle.loading.specs.Storing.{after_reading}
use Rattle.state.specs.declared.State.{State}
use Rattle.state.specs.State.{fresh, well_formed}
use Rattle.events.specs.declared.Event.{Event}
use Rattle.events.specs.declared.Refusal.TheVariants.{IllFormed}
use Rattle.events.specs.declared.Answer.{Answer}
use Rattle.events.specs.declared.Answer.TheVariants.{Refused}
use Rattle.events.specs.Events.{events_of, left_over, unfinished_in, unfinished_cells}
use Rattle.events.specs.Decide.{answer}
use Rattle.lines.specs.Lines.{answer_line, line_most}
use Rattle.laws.specs.Written.{Wrote}
use Rattle.demands.specs.Ours.{our_writer}
use Rattle.demands.specs.Session.{answers_of, state_after, first_line, Between, between, due, Carries}
use Rattle.signalbox.specs.declared.Outcome.{Outcome}
use Rattle.signalbox.specs.declared.Reason.{Reason}
use Rattle.signalbox.specs.declared.Reason.TheVariants.{NoPlan, BadState, NoRoom}
use Rattle.codes.specs.Codes.{answer_code, form_code, read_code, written_code, no_room}

-- A file read into lent memory: 0, and the plan's image; or the form, and the memory as it was.
pub record Loaded (file image : List ℕ) (r : ℕ) (image' : List ℕ) : Type 0 where
  pub code : r ≡ read_code (parse file)
  pub holds : image' ≡ after_reading (parse file) image

-- An image written as its file, as the page of demands has it.
pub record Filed (image out : List ℕ) (r : ℕ) (out' : List ℕ) : Type 0 where
  pub code : r ≡ written_code (our_writer.answer image out)
  pub holds : out' ≡ our_writer.leaves image out

-- The start: the fresh state, and no byte of an event.
pub record Started (σ : State) (unfinished : List ℕ) : Type 0 where
  pub state : σ ≡ fresh
  pub none : unfinished ≡ unfinished_cells []

-- What many events hand back: all was done, and so much is written; or nothing was done, and why.

abbrev pub reason_code : Reason → ℕ
reason_code (NoPlan f) = form_code f
reason_code BadState = answer_code (Refused IllFormed)
reason_code NoRoom = no_room

abbrev pub done : ℕ → Outcome
done n = record { code = 0; written = n }

abbrev pub not_done : Reason → Outcome
not_done why = record { code = reason_code why; written = 0 }

-- One event. An unreadable plan gives its form, before anything else is looked at.

unfoldable pub step_code : Got Plan → State → Event → ℕ
step_code (form f) σ event = form_code f
step_code (got p at rest) σ event = answer_code (answer p σ event)

pub record Stepped (g : Got Plan) (σ : State) (event : Event) (r : ℕ) (τ : State) : Type 0 where
  pub code : r ≡ step_code g σ event
  pub state : τ ≡ state_after g σ (event ∷ [])
  pub carries : Carries g σ (event ∷ []) τ

-- Why many events are not played, in the order in which it is tried; 0 is no reason.

unfoldable pub first_reason : List ℕ → ℕ
first_reason [] = 0
first_reason (zero ∷ reasons) = first_reason reasons
first_reason (suc n ∷ reasons) = suc n

-- the plan is unreadable: its form; the state is not well formed: 10
unfoldable pub in_the_way : Got Plan → State → ℕ
in_the_way (form f) σ = form_code f
in_the_way (got p at rest) σ = cond (well_formed p σ) 0 (answer_code (Refused IllFormed))

-- the same before it is a code
unfoldable pub readiness : Got Plan → State → Result Unit Reason
readiness (form f) σ = Err (NoPlan f)
readiness (got p at rest) σ = cond (well_formed p σ) (Ok tt) (Err BadState)

-- an unfinished event is said to have more than two bytes: 10 too
unfoldable pub too_long : List ℕ → ℕ
too_long unfinished = cond (ltb 2 (get_or unfinished 0 0)) (answer_code (Refused IllFormed)) 0

-- there is room for fewer than there are: 6
unfoldable pub too_many : ℕ → ℕ → ℕ
too_many room count = cond (ltb room count) no_room 0

-- a run writes a code of each answer
unfoldable pub run_reason : Got Plan → State → List Event → ℕ → ℕ
run_reason g σ events room = first_reason (in_the_way g σ ∷ (too_many room (length events) ∷ []))

-- feeding and finishing write its line, and each is counted the longest
unfoldable pub line_reason : Got Plan → State → List ℕ → List Event → ℕ → ℕ
line_reason g σ unfinished events room = first_reason (in_the_way g σ ∷ (too_long unfinished ∷ (too_many (room / line_most) (length events) ∷ [])))

-- the first where there is no reason against it, the second where there is one
unfoldable pub unless : {A : Type 0} → ℕ → A → A → A
unless zero done not = done
unless (suc n) done not = not

-- what a run writes of an answer
abbrev pub code_of : Answer → List ℕ
code_of a = answer_code a ∷ []

-- What playing many events hands back and leaves: the reason; the state after all of them, or after none; what is written of each answer, from the
-- start of the lent buffer on, with the rest as it was, and how much that is.
pub record Played (write : Answer → List ℕ) (g : Got Plan) (σ : State) (reason : ℕ) (events : List Event) (out : List ℕ) (r : Outcome) (τ : State) (out' : List ℕ) : Type 0 where
  pub code : r.code ≡ reason
  pub state : τ ≡ state_after g σ (unless reason events [])
  pub written : Wrote (joined write (answers_of g σ (unless reason events []))) out 0 out' r.written
  pub carries : Carries g σ (unless reason events []) τ

-- a run plays every event of its bytes, an incomplete last one too
abbrev pub Ran : Got Plan → State → List ℕ → List ℕ → Outcome → State → List ℕ → Type 0
Ran g σ bytes out r τ out' = Played code_of g σ (run_reason g σ (events_of bytes) (length out)) (events_of bytes) out r τ out'

-- A run as lines, with an unfinished event before and after: what is left over then is unfinished.
pub record Answered (g : Got Plan) (σ : State) (unfinished : List ℕ) (reason : ℕ) (events : List Event) (left out : List ℕ) (r : Outcome) (τ : State) (unfinished' out' : List ℕ) : Type 0 where
  pub played : Played answer_line g σ reason events out r τ out'
  pub kept : unfinished' ≡ unless reason (unfinished_cells left) unfinished

-- what stands between two reads, as the lent memory holds it
abbrev pub standing : State → List ℕ → Between
standing σ unfinished = between σ (unfinished_in unfinished)

-- feeding plays every event that the next bytes make whole
abbrev pub Feeds : Got Plan → State → List ℕ → List ℕ → List ℕ → Outcome → State → List ℕ → List ℕ → Type 0
Feeds g σ unfinished bytes out r τ unfinished' out' =
    let b = standing σ unfinished in
    Answered g σ unfinished (line_reason g σ unfinished (due b bytes) (length out)) (due b bytes) (left_over (b.unfinished ++ bytes)) out r τ unfinished' out'

-- finishing plays what is unfinished as an incomplete event, and nothing is left over
abbrev pub Finishes : Got Plan → State → List ℕ → List ℕ → Outcome → State → List ℕ → List ℕ → Type 0
Finishes g σ unfinished out r τ unfinished' out' =
    let events = events_of (unfinished_in unfinished) in
    Answered g σ unfinished (line_reason g σ unfinished events (length out)) events [] out r τ unfinished' out'

-- The line for the plan, where there is room for the longest one.
unfoldable pub open_reason : ℕ → ℕ
open_reason room = too_many (room / line_most) 1

pub record Opened (g : Got Plan) (out : List ℕ) (r : Outcome) (out' : List ℕ) : Type 0 where
  pub code : r.code ≡ open_reason (length out)
  pub written : Wrote (unless (open_reason (length out)) (first_line g) []) out 0 out' r.written
