-- The impostors of document 01, "No loose ends": boxes that would pass for one, and the demand that each of them fails. Ours, beside the document's: boxes
-- deaf to events or states, one that is right but in one place, one for each part of demand 3, for NamesTrain, NamesHeld, KeepsOwn, Settled and Agreement, and one for each part
-- of writing, so that none of them is idle.
use Rattle.std.specs.Prelude.{◌≡◌, ◌≢◌, ◌⊎◌, List, [], ◌∷◌, ℕ, ◌+◌, ◌<◌, ◌≤◌, length, get_or, Err}
use Rattle.laws.specs.Lists.{In}
use Rattle.laws.specs.Answers.{NoSuch, LowestSuch}
use Rattle.plan.specs.Limits.{image_size}
use Rattle.plan.specs.Records.{Plan, route_of, entry_of}
use Rattle.plan.specs.Routes.{Listed, Releases}
use Rattle.plan.specs.File.{Readable}
use Rattle.reading.specs.declared.Form.{Form}
use Rattle.reading.specs.Reading.{Got, form, form_number, form_offset}
use Rattle.writing.specs.declared.Unwritten.{Unwritten}
use Rattle.writing.specs.declared.Unwritten.TheVariants.{NoFile}
use Rattle.rules.specs.Verdict.{Sound, rule_number, rule_row, Verdict}
use Rattle.state.specs.declared.State.{State}
use Rattle.state.specs.State.{no_train, normal_lie, reverse_lie, red, train_at, lie_at, held_by, shown_at, HasTrain, Holds, WellFormed, fresh}
use Rattle.events.specs.declared.Event.{Event}
use Rattle.events.specs.declared.Event.TheVariants.{Request, Cancel, Enter, Move, Unknown}
use Rattle.events.specs.declared.Refusal.{Refusal}
use Rattle.events.specs.declared.Refusal.TheVariants.{IllFormed, BadEvent, Occupied, Held}
use Rattle.events.specs.declared.Harm.{Harm}
use Rattle.events.specs.declared.Deed.TheVariants.{Granted, Cancelled, Entered, Moved, Left}
use Rattle.events.specs.declared.Answer.{Answer}
use Rattle.events.specs.declared.Answer.TheVariants.{Refused, Accident, Done}
use Rattle.demands.specs.Demands.{Box, Demand2, SameState, Reads, ReadsAs, Writer, Writes, Judges, history, reached, comes, goes, shown, SinceGrant, Demand3, NamesTrain, NamesHeld, KeepsOwn, Settled, Agreement}
use Rattle.events.specs.Meaning.{Busy, clear_for, InPlan, SignalRed, AfterGrant}

-- it refuses everything, whatever the reason
abbrev pub RefusesAll : Box → Type 0
RefusesAll box = (p : Plan) (σ : State) (event : Event) → (refusal : Refusal) × (box.answer p σ event ≡ Refused refusal)

-- it has a single stock answer
abbrev pub Stock : Answer → Box → Type 0
Stock answer box = (p : Plan) (σ : State) (event : Event) → box.answer p σ event ≡ answer

-- it never alters the state
abbrev pub Idle : Box → Type 0
Idle box = (p : Plan) (σ : State) (event : Event) → box.next p σ event ≡ σ

-- its answers don't go by the event, or not by the state
abbrev pub DeafToEvents : Box → Type 0
DeafToEvents box = (p : Plan) (σ : State) (event other : Event) → box.answer p σ event ≡ box.answer p σ other

abbrev pub DeafToStates : Box → Type 0
DeafToStates box = (p : Plan) (σ τ : State) (event : Event) → box.answer p σ event ≡ box.answer p τ event

-- it plays the whole list at the first event. A box knows one event at a time, so the rest of the list is given to it beforehand: any events,
-- which may be others for every plan, state and event.
abbrev pub hasty : (Plan → State → Event → List Event) → Box → Box
hasty rest box = record { answer = box.answer; next = λ p σ event. reached box p (box.next p σ event) (rest p σ event) }

-- it differs from another in one place: a plan, a state and an event
abbrev pub DifferAt : Plan → State → Event → Box → Box → Type 0
DifferAt p σ event box other =
    (box.answer p σ event ≢ other.answer p σ event) ⊎ (SameState (box.next p σ event) (other.next p σ event) → ⊥)

-- it never says 40 to 42, but 11 in their place
abbrev pub hushed : Answer → Answer
hushed (Refused refusal) = Refused refusal
hushed (Accident harm) = Refused BadEvent
hushed (Done deed) = Done deed

-- whatever it says in their place
abbrev pub Silent : Box → Type 0
Silent box = (p : Plan) (σ : State) (event : Event) (harm : Harm) → box.answer p σ event ≢ Accident harm

abbrev pub hush : Box → Box
hush box = record { answer = λ p σ event. hushed (box.answer p σ event); next = box.next }

-- every answer says that some train enters, leaves or moves, whichever and wherever: it may go by the plan, the state and the event. (A move from a track to
-- itself comes and goes at once, and no count sees it; demand 2 does.)

abbrev pub AllEnter : Box → Type 0
AllEnter box = (p : Plan) (σ : State) (event : Event) → (train u : ℕ) × (box.answer p σ event ≡ Done (Entered train u))

abbrev pub AllLeave : Box → Type 0
AllLeave box = (p : Plan) (σ : State) (event : Event) → (train u : ℕ) × (box.answer p σ event ≡ Done (Left train u))

abbrev pub AllMove : Box → Type 0
AllMove box = (p : Plan) (σ : State) (event : Event) → (train u v : ℕ) × (u ≢ v) × (box.answer p σ event ≡ Done (Moved train u v))

-- by the answers, the route lists the point and holds it since its latest grant
abbrev pub Since : Plan → ℕ → ℕ → List Answer → Type 0
Since p r x answers = Listed p r x × SinceGrant p r x answers

-- an answer invents: what it says to come and go on a track is not the difference between what the states before and after it show there
abbrev pub InventsAt : Plan → State → Event → ℕ → Box → Type 0
InventsAt p σ event u box =
    comes u (box.answer p σ event) + shown σ u ≢ goes u (box.answer p σ event) + shown (box.next p σ event) u

-- What they fail (proofs/Impostors.antt, impostors).
pub record Impostors : Type 0 where
  pub refuser_fails : (box : Box) → RefusesAll box → Demand2 box → ⊥
  pub stock_fails : (answer : Answer) (box : Box) → Stock answer box → Demand2 box → ⊥
  pub idle_fails : (box : Box) → Idle box → Demand2 box → ⊥
  pub events_fail : (box : Box) → DeafToEvents box → Demand2 box → ⊥
  pub states_fail : (box : Box) → DeafToStates box → Demand2 box → ⊥
  -- any rest of the list played early, wherever that alters anything; and there is such a rest
  pub hasty_fails : (box : Box) → Demand2 box → (rest : Plan → State → Event → List Event) (p : Plan) → Readable p → (σ : State) (event : Event)
      → DifferAt p σ event box (hasty rest box) → Demand2 (hasty rest box) → ⊥
  pub hasty_entry : (box : Box) → Demand2 box → Demand2 (hasty (λ p σ event. Enter 0 1 ∷ []) box) → ⊥
  -- a box that is right on all plans but one, and there in all states and for all events but one
  pub stray_fails : (box other : Box) → Demand2 box → (p : Plan) → Readable p → (σ : State) (event : Event) → DifferAt p σ event box other → Demand2 other → ⊥
  -- demand 3 alone doesn't ask for accidents to be said, demand 2 does
  pub hush_safe : (box : Box) → Demand2 box → Demand3 (hush box)
  pub hush_fails : (box : Box) → Demand2 box → Demand2 (hush box) → ⊥
  pub silent_fails : (box : Box) → Silent box → Demand2 box → ⊥
  -- an invented rule or row: no other than that of a verdict that meets demand 2
  pub rows_fail : (verdict other : Plan → Verdict) (p : Plan) → Readable p → Judges verdict
      → (rule_number (other p) ≢ rule_number (verdict p)) ⊎ (rule_row (other p) ≢ rule_row (verdict p)) → Judges other → ⊥
  -- an invented form or offset: no other than that of a reader that meets demand 2
  pub offsets_fail : (read other : List ℕ → Got Plan) (file : List ℕ) {f g : Form} → Reads read → read file ≡ form f → other file ≡ form g
      → (form_number g ≢ form_number f) ⊎ (form_offset g ≢ form_offset f) → Reads other → ⊥
  -- invented comings and goings, whatever they go by and whatever the states
  pub comings_fail : (box : Box) → AllEnter box → Demand3 box → ⊥
  pub goings_fail : (box : Box) → AllLeave box → Demand3 box → ⊥
  pub moves_fail : (box : Box) → AllMove box → Demand3 box → ⊥
  -- and a single invented coming or going, after any events
  pub invented_fails : (box : Box) (p : Plan) → Readable p → Sound p → (events : List Event) (event : Event) (u : ℕ)
      → InventsAt p (reached box p fresh events) event u box → Demand3 box → ⊥
  -- a box that on one accepted plan, after some events, says an accident or 10; or shows a hold that the answers don't give, or lacks one that
  -- they give, or shows a point held by a route that doesn't list it in the lie it has
  pub harm_fails : (box : Box) (p : Plan) → Readable p → Sound p → (events : List Event) (event : Event) (harm : Harm)
      → box.answer p (reached box p fresh events) event ≡ Accident harm → Demand3 box → ⊥
  pub ill_fails : (box : Box) (p : Plan) → Readable p → Sound p → (events : List Event) (event : Event)
      → box.answer p (reached box p fresh events) event ≡ Refused IllFormed → Demand3 box → ⊥
  pub holds_fail : (box : Box) (p : Plan) → Readable p → Sound p → (events : List Event) (r x : ℕ)
      → (Holds (reached box p fresh events) r x × (Since p r x (history box p fresh events) → ⊥))
      ⊎ (Since p r x (history box p fresh events) × (Holds (reached box p fresh events) r x → ⊥))
      → Demand3 box → ⊥
  pub swung_fails : (box : Box) (p : Plan) → Readable p → Sound p → (events : List Event) (r x : ℕ)
      → Holds (reached box p fresh events) r x
      → ((lie_at (reached box p fresh events) x ≡ normal_lie) × (In x (route_of p r).normal → ⊥)) ⊎ ((lie_at (reached box p fresh events) x ≡ reverse_lie) × (In x (route_of p r).reverse → ⊥))
      → Demand3 box → ⊥
  -- a box whose 13 names another train than the one on the track, or a track that is not in the event's clear list, has no train or is not the lowest
  pub stranger_fails : (box : Box) (p : Plan) → Readable p → (σ : State) (event : Event) (u train : ℕ) → box.answer p σ event ≡ Refused (Occupied u train)
      → (train_at σ u ≢ train) ⊎ (In u (clear_for p event) → ⊥) ⊎ (HasTrain σ u → ⊥) ⊎ ((v : ℕ) × (v < u) × In v (clear_for p event) × HasTrain σ v)
      → NamesTrain box → ⊥
  -- one that says 13 to a cancel, a move or what is no event; and one that has another answer for a train in the way of a request or an entry
  pub elsewhere_fails : (box : Box) (p : Plan) → Readable p → (σ : State) (event : Event) (n u train : ℕ) → (event ≡ Cancel n) ⊎ (event ≡ Move n) ⊎ (event ≡ Unknown)
      → box.answer p σ event ≡ Refused (Occupied u train) → NamesTrain box → ⊥
  pub mute_fails : (box : Box) (p : Plan) → Readable p → (σ : State) → WellFormed p σ → (r : ℕ) → r < length p.routes → SignalRed p σ r
      → (u : ℕ) → LowestSuch (Busy p σ (route_of p r).clear) u → box.answer p σ (Request r) ≢ Refused (Occupied u (train_at σ u)) → NamesTrain box → ⊥
  pub dumb_fails : (box : Box) (p : Plan) → Readable p → (σ : State) → WellFormed p σ → (e other : ℕ) → e < length p.entries → other ≢ no_train → (InPlan p σ other → ⊥)
      → (u : ℕ) → LowestSuch (Busy p σ (entry_of p e).clear) u → box.answer p σ (Enter e other) ≢ Refused (Occupied u (train_at σ u)) → NamesTrain box → ⊥
  -- a box whose 14 names a point that no route holds, or that the grant would not turn, or that is not the lowest, or that says it before 10 to 13; one
  -- that says it to what is no request; one that has another answer where it is due; one whose grant turns a held point
  pub stiff_fails : (box : Box) (p : Plan) → Readable p → (σ : State) (r q : ℕ) → box.answer p σ (Request r) ≡ Refused (Held q)
      → ((k : ℕ) → Holds σ k q → ⊥) ⊎ ((τ : State) → AfterGrant p σ τ r → (lie_at τ q ≡ lie_at σ q) ⊎ ((x k : ℕ) × (x < q) × Holds σ k x × (lie_at τ x ≢ lie_at σ x)))
      → NamesHeld box → ⊥
  pub rash_fails : (box : Box) (p : Plan) → Readable p → (σ : State) (r q : ℕ) → box.answer p σ (Request r) ≡ Refused (Held q)
      → (WellFormed p σ → ⊥) ⊎ (length p.routes ≤ r) ⊎ (shown_at σ (route_of p r).start ≢ red) ⊎ ((u : ℕ) × In u (route_of p r).clear × HasTrain σ u) → NamesHeld box → ⊥
  pub astray_fails : (box : Box) (p : Plan) → Readable p → (σ : State) (event : Event) (q : ℕ) → ((r : ℕ) → event ≢ Request r)
      → box.answer p σ event ≡ Refused (Held q) → NamesHeld box → ⊥
  pub lax_fails : (box : Box) (p : Plan) → Readable p → (σ τ : State) → WellFormed p σ → (r : ℕ) → r < length p.routes → SignalRed p σ r
      → NoSuch (Busy p σ (route_of p r).clear) → AfterGrant p σ τ r → (k q : ℕ) → Holds σ k q → lie_at τ q ≢ lie_at σ q
      → ((j x : ℕ) → x < q → Holds σ j x → lie_at τ x ≡ lie_at σ x) → box.answer p σ (Request r) ≢ Refused (Held q) → NamesHeld box → ⊥
  pub turner_fails : (box : Box) (p : Plan) → Readable p → (σ : State) (r k q : ℕ) → box.answer p σ (Request r) ≡ Done (Granted r) → Holds σ k q
      → lie_at (box.next p σ (Request r)) q ≢ lie_at σ q → NamesHeld box → ⊥
  -- one whose grant takes a hold from a route, or leaves a listed point without the route's own, or gives one that nobody took; one whose cancel or whose
  -- arrival drops the hold of another route, or keeps the one that it is to drop; and one that has a point lie otherwise than a holder would leave it
  pub robber_fails : (box : Box) (p : Plan) → Readable p → (σ : State) (event : Event) (r k q : ℕ) → box.answer p σ event ≡ Done (Granted r)
      → (Holds σ k q × (Holds (box.next p σ event) k q → ⊥))
      ⊎ ((k ≡ r) × (In q (route_of p r).normal ⊎ In q (route_of p r).reverse) × (Holds (box.next p σ event) k q → ⊥))
      ⊎ ((Holds σ k q → ⊥) × ((k ≢ r) ⊎ (Listed p r q → ⊥)) × Holds (box.next p σ event) k q)
      → KeepsOwn box → ⊥
  pub clearer_fails : (box : Box) (p : Plan) → Readable p → (σ : State) (event : Event) (r k q : ℕ) → box.answer p σ event ≡ Done (Cancelled r)
      → ((k ≢ r) × Holds σ k q × (Holds (box.next p σ event) k q → ⊥)) ⊎ ((k ≡ r) × Holds (box.next p σ event) k q) → KeepsOwn box → ⊥
  pub spender_fails : (box : Box) (p : Plan) → Readable p → (σ : State) (event : Event) (train u v k q : ℕ) → box.answer p σ event ≡ Done (Moved train u v)
      → ((Releases p k v q → ⊥) × Holds σ k q × (Holds (box.next p σ event) k q → ⊥)) ⊎ (Releases p k v q × Holds (box.next p σ event) k q) → KeepsOwn box → ⊥
  pub restless_fails : (box : Box) (p : Plan) → Readable p → (events : List Event) (r q : ℕ) → Holds (reached box p fresh events) r q
      → (In q (route_of p r).reverse × (lie_at (reached box p fresh events) q ≢ reverse_lie))
      ⊎ ((In q (route_of p r).reverse → ⊥) × In q (route_of p r).normal × (lie_at (reached box p fresh events) q ≢ normal_lie)) → Settled box → ⊥
  -- a box whose answer to a request goes by something that it doesn't look at
  pub aloof_fails : (box : Box) (p : Plan) → Readable p → (r : ℕ) (σ τ : State) → WellFormed p σ → WellFormed p τ
      → shown_at σ (route_of p r).start ≡ shown_at τ (route_of p r).start → ((u : ℕ) → In u (route_of p r).clear → train_at σ u ≡ train_at τ u)
      → ((q : ℕ) → In q (route_of p r).normal ⊎ In q (route_of p r).reverse
      → ((k : ℕ) → held_by σ k q ≡ held_by τ k q) × (lie_at σ q ≡ lie_at τ q) × (train_at σ q ≡ train_at τ q))
      → box.answer p σ (Request r) ≢ box.answer p τ (Request r) → Agreement box → ⊥
  -- a writer that refuses everything, with 7 or for whatever reason; one that leaves another byte past the file than was there
  pub miser_fails : (read : List ℕ → Got Plan) → Reads read → (writer : Writer) → ((image out : List ℕ) → (why : Unwritten) × (writer.answer image out ≡ Err why))
      → Writes read writer → ⊥
  pub past_fails : (read : List ℕ → Got Plan) (writer : Writer) (image out file : List ℕ) (i : ℕ) → ReadsAs read file image → length file ≤ i
      → length file ≤ length out → get_or (writer.leaves image out) i 0 ≢ get_or out i 0 → Writes read writer → ⊥
  -- a writer that says something else than 7 where no file reads as the image, 6 for instance; one that refuses a memory that is just long enough; one
  -- whose refusal leaves something else than was there; and one that differs in one place from a writer that meets the demand
  pub blind_fails : (read : List ℕ → Got Plan) (writer : Writer) (image out : List ℕ) → length image ≡ image_size → ((file : List ℕ) → ReadsAs read file image → ⊥)
      → writer.answer image out ≢ Err NoFile → Writes read writer → ⊥
  pub tight_fails : (read : List ℕ → Got Plan) (writer : Writer) (image out file : List ℕ) (why : Unwritten) → ReadsAs read file image → length out ≡ length file
      → writer.answer image out ≡ Err why → Writes read writer → ⊥
  pub spoiler_fails : (read : List ℕ → Got Plan) (writer : Writer) (image out : List ℕ) (why : Unwritten) → length image ≡ image_size
      → writer.answer image out ≡ Err why → writer.leaves image out ≢ out → Writes read writer → ⊥
  pub other_fails : (read : List ℕ → Got Plan) (writer other : Writer) (image out : List ℕ) → Reads read → length image ≡ image_size
      → (writer.answer image out ≢ other.answer image out) ⊎ (writer.leaves image out ≢ other.leaves image out) → Writes read writer → Writes read other → ⊥
