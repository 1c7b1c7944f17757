-- The demands on a box, stated of any box: what it answers and its next state, for a plan, a state and an event (docs/DEMANDS.md has them beside the
-- sentences of document 01). Each is followed by the theorem, in proofs/, that speaks of it. The page rests on these definitions, and on nothing else:
--   plan/specs/Limits.antt       the numbers of document 01: how many of each a plan may have
--   plan/specs/Records.antt      Plan; plan/specs/Kinds.antt: Plain, Exit, Forks, Legged, is_point, out, leg, uses, what a track is
--   plan/specs/Layout.antt       Leads, Home, StandsAt; plan/specs/Routes.antt: track_at, points_of, Listed, Released, Releases, what a route says
--   plan/specs/File.antt         file_of, the file of a plan, and Readable, the plans that a file can hold
--   plan/specs/Image.antt        image_of, the memory of a plan, and plan_of, the plan that any memory shows
--   writing/src/lib.rt           Unwritten, why a writer writes nothing; writing/specs/Writing.antt: the numbers of what it answers
--   forms/specs/Forms.antt       plan_file, the plan file byte by byte: what the next byte must be, by those before it; Formed, the table of forms (1 to 5), each as its
--                                sentence of the first byte that is not right; forms/specs/Rows.antt: TrackRow and its like, which byte of a row is which
--   forms/specs/Shown.antt       OneForm, exactly one form for a file that is no plan's; Longest, the largest file
--   reading/specs/Reading.antt   Got, what a reader gives: a plan or a form (reading/src/lib.rt); form_number and form_offset, its number and offset
--   rules/specs/Sentences.antt   the twelve plan rules, each as its sentence of a row
--   rules/specs/Verdict.antt     rules, their list; Sound, each sentence is true of every row; Breaks, the lowest broken rule and row; rule_number and rule_row, the
--                                document's numbers of a Verdict, which is nothing or a Broken (rules/src/lib.rt)
--   state/specs/State.antt       State (state/src/lib.rt) and its views train_at, HasTrain, lie_at, normal_lie, reverse_lie, Holds; fresh; WellFormed
--   events/src/lib.rt            Event, Answer, Refusal, Harm, Deed; events/specs/Events.antt: events_of, the events of any bytes
--   events/specs/Answers.antt    comes_on, arrives_on, leaves_from: where an answer, if it is a deed (if_done), brings a train or takes one away
--   events/specs/Meaning.antt    Given, the table of answers, and of its sentences Busy, OtherLie, SignalRed, InPlan; Follows, what a state shows after an
--                                answer, and AfterGrant after a grant; SameTrains and so on; Alike; clear_for and Meets, what is met on the clear list of an event
--   laws/specs/Answers.antt      Table, the rows of a table of answers, and Gives, the answer that it gives; NoSuch, LowestSuch
--   laws/specs/Lists.antt        All: each element of a list is so; In: a number stands in a list; laws/specs/Sets.antt: member, the bits
--                                of a number (a route holds a point); laws/specs/Tests.antt: Is, a test is passed
-- Demand 1, always an answer, needs no definition here: the functions of the public face (signalbox/src/lib.rt) ask nothing of their callers, and
-- every function is proved to end. What is printed for any input, however it is cut, and demand 3 from call to call stand in Session.antt.
-- Signs: `(x : ℕ) → A` for every number x, A; `(x : ℕ) × A` there is a number x with A; `A → B` if A then B; `A × B` both; `A ⊎ B` one of the two;
-- `A ↔ B` each gives the other; `A → ⊥` not A, `⊥` what is never so, `Unit` what is always so; `x ≡ y` equal, `x ≢ y` not; `λ x. e` e, given x; `[]` the empty
-- list, `x ∷ l` x before the list l, `k ++ l` one after the other; `get_or l i d` the i-th of l, d where there is none; `cond test yes no`; `suc n` n + 1; `take n l` the first n of
-- l, `drop n l` those after them; `.0`, `.1` the first and second of a pair. A `record` holds all of its lines, a `data` one of its cases; what stands in `{ }` can be read off from the rest; `abbrev` and
-- `unfoldable` are for the prover. These, and what the kit has of numbers and lists, are all that is used beside the definitions above.
use Rattle.std.specs.Prelude.{◌≡◌, cond, ◌≢◌, ◌⊎◌, ◌↔◌, List, [], ◌∷◌, ◌++◌, ℕ, ◌+◌, ◌<◌, ◌≤◌, eqb, length, take, drop, Err, None, Ok, Option, Result, Some}
use Rattle.laws.specs.Lists.{All, In}
use Rattle.laws.specs.Answers.{NoSuch, LowestSuch}
use Rattle.plan.specs.Limits.{image_size}
use Rattle.plan.specs.Records.{Plan, route_of, entry_of}
use Rattle.plan.specs.Routes.{Listed, Releases}
use Rattle.plan.specs.File.{file_of, Readable}
use Rattle.plan.specs.Image.{image_of, plan_of}
use Rattle.reading.specs.declared.Form.{Form}
use Rattle.reading.specs.Reading.{Got, form, got, form_number, form_offset}
use Rattle.forms.specs.Forms.{Formed, plan_file}
use Rattle.writing.specs.declared.Unwritten.{Unwritten}
use Rattle.writing.specs.declared.Unwritten.TheVariants.{NoFile, NoRoom}
use Rattle.rules.specs.Verdict.{Sound, Breaks, rule_number, rule_row, Verdict}
use Rattle.state.specs.declared.State.{State}
use Rattle.state.specs.State.{no_train, normal_lie, reverse_lie, train_at, lie_at, HasTrain, Holds, WellFormed, fresh}
use Rattle.events.specs.declared.Event.{Event}
use Rattle.events.specs.declared.Event.TheVariants.{Request, Enter}
use Rattle.events.specs.declared.Refusal.TheVariants.{IllFormed, Occupied, Held}
use Rattle.events.specs.declared.Harm.{Harm}
use Rattle.events.specs.declared.Deed.TheVariants.{Granted, Cancelled, Entered, Moved, Left}
use Rattle.events.specs.declared.Answer.{Answer}
use Rattle.events.specs.declared.Answer.TheVariants.{Refused, Accident, Done}
use Rattle.events.specs.Answers.{comes_on, arrives_on, leaves_from}
use Rattle.events.specs.Meaning.{clear_for, Busy, Meets, OtherLie, InPlan, SignalRed, Given, AfterGrant, Follows, Alike, SameTrains, SameLies, SameHolds, SameSignals}

pub record Box : Type 0 where
  pub answer : Plan → State → Event → Answer
  pub next : Plan → State → Event → State

-- Demand 2: exactly the written answer, and exactly the written next state.

pub record Demand2 (box : Box) : Type 0 where
  pub answers : (p : Plan) → Readable p → (σ : State) (event : Event) → Given p σ event (box.answer p σ event)
  pub states : (p : Plan) → Readable p → (σ : State) (event : Event) → Follows p σ (box.next p σ event) (box.answer p σ event)

-- No choice is left (proofs/Once.antt, no_choice): two boxes that meet demand 2 answer alike, and their next states show the same in every cell.

pub record SameState (σ τ : State) : Type 0 where
  pub trains : SameTrains σ τ
  pub lies : SameLies σ τ
  pub holds : SameHolds σ τ
  pub signals : SameSignals σ τ

abbrev pub NoChoice : Type 0
NoChoice =
    (box other : Box) → Demand2 box → Demand2 other → (p : Plan) → Readable p → (σ : State) (event : Event)
    → (box.answer p σ event ≡ other.answer p σ event) × SameState (box.next p σ event) (other.next p σ event)

-- Demand 2 of reading a file, any bytes whatever: the plan whose file it is, or the form of its first byte that is not right. Each form has its
-- sentence (forms/specs/Forms.antt): 1, every byte is right and more is due; 2, a count is due, and this one is beyond its limits; 3, a number is due,
-- and this one does not exist; 4, it exists, and is not above its forerunner; 5, nothing more is due. Exactly one applies to a file that is no
-- plan's (`OneForm`).
pub record Reads (read : List ℕ → Got Plan) : Type 0 where
  -- the plan, the offset after it, and no byte left
  pub plans : (p : Plan) → Readable p → read (file_of p) ≡ got p (length (file_of p)) []
  pub forms : (file : List ℕ) (f : Form) → Formed plan_file file (form_number f) (form_offset f) → read file ≡ form f

-- No choice is left here either (proofs/Verdicts.antt, one_reading).
abbrev pub OneReading : Type 0
OneReading = (read other : List ℕ → Got Plan) → Reads read → Reads other → (file : List ℕ) → read file ≡ other file

-- Demand 2 of writing a plan in memory, which document 02's first request adds. A file reads as an image where reading it leaves that.
abbrev pub ReadsAs : (List ℕ → Got Plan) → List ℕ → List ℕ → Type 0
ReadsAs read file image = (p : Plan) × (read file ≡ got p (length file) []) × (image_of p ≡ image)

-- What a writer answers for an image and the memory that it is lent, and what it leaves there.
pub record Writer : Type 0 where
  pub answer : List ℕ → List ℕ → Result ℕ Unwritten
  pub leaves : List ℕ → List ℕ → List ℕ

-- Of any bytes as an image, as many as one has, and of any lent memory: 7 (NoFile) exactly when no file reads as the image; else 6 (NoRoom) exactly when the
-- memory is shorter than the file; else the file's length, and the file at the front of the memory, with what was past it. A refusal leaves it all.
pub record Writes (read : List ℕ → Got Plan) (writer : Writer) : Type 0 where
  pub none : (image out : List ℕ) → length image ≡ image_size → (writer.answer image out ≡ Err NoFile) ↔ ((file : List ℕ) → ReadsAs read file image → ⊥)
  pub short : (image out file : List ℕ) → ReadsAs read file image → (writer.answer image out ≡ Err NoRoom) ↔ (length out < length file)
  pub whole : (image out file : List ℕ) → ReadsAs read file image → length file ≤ length out
      → (writer.answer image out ≡ Ok (length file)) × (writer.leaves image out ≡ file ++ drop (length file) out)
  pub kept : (image out : List ℕ) (why : Unwritten) → length image ≡ image_size → writer.answer image out ≡ Err why → writer.leaves image out ≡ out

-- No choice is left (proofs/Writing.antt, one_writing).
abbrev pub OneWriting : Type 0
OneWriting =
    (read : List ℕ → Got Plan) (writer other : Writer) → Reads read → Writes read writer → Writes read other → (image out : List ℕ) → length image ≡ image_size
    → (writer.answer image out ≡ other.answer image out) × (writer.leaves image out ≡ other.leaves image out)

-- Every writer that meets it gives back what was read, and what is read back is what it was given (proofs/Writing.antt, round_trip).
pub record RoundTrip (read : List ℕ → Got Plan) (writer : Writer) : Type 0 where
  -- reading what was written gives the same plan, and the same image
  pub again : (image out : List ℕ) (size : ℕ) → length image ≡ image_size → writer.answer image out ≡ Ok size
      → (read (take size (writer.leaves image out)) ≡ got (plan_of image) size []) × (image_of (plan_of image) ≡ image)
  -- writing what was read gives the same bytes
  pub back : (file out : List ℕ) {p : Plan} {at : ℕ} {rest : List ℕ} → read file ≡ got p at rest → length file ≤ length out
      → (writer.answer (image_of p) out ≡ Ok (length file)) × (take (length file) (writer.leaves (image_of p) out) ≡ file)
  -- a plan that is written is readable, and what is written is its file
  pub readable : (image out : List ℕ) (size : ℕ) → length image ≡ image_size → writer.answer image out ≡ Ok size
      → Readable (plan_of image) × (take size (writer.leaves image out) ≡ file_of (plan_of image))

-- Demand 2 of the verdict on a plan: accepted exactly when the twelve sentences hold, else the lowest broken rule with its lowest row.
pub record Judges (verdict : Plan → Verdict) : Type 0 where
  pub accepted : (p : Plan) → Readable p → (verdict p ≡ Ok tt) ↔ Sound p
  pub broken : (p : Plan) → Readable p → verdict p ≢ Ok tt → Breaks p (rule_number (verdict p)) (rule_row (verdict p))

-- A run: the answers to a list of events, the first one first, and the state reached.
module _ (box : Box) (p : Plan) where
  unfoldable pub history : State → List Event → List Answer
  history σ [] = []
  history σ (event ∷ events) = box.answer p σ event ∷ history (box.next p σ event) events

  unfoldable pub reached : State → List Event → State
  reached σ [] = σ
  reached σ (event ∷ events) = reached (box.next p σ event) events

-- Comings and goings, from the answers alone.

-- 1 where the track is the one that is found, else 0
unfoldable pub once_at : ℕ → Option ℕ → ℕ
once_at u (Some v) = cond (eqb u v) 1 0
once_at u None = 0

-- a train comes to stand on the track: it enters there, or moves onto it
abbrev pub comes : ℕ → Answer → ℕ
comes u answer = once_at u (comes_on answer)

-- a train goes from the track: it moves on, or leaves
abbrev pub goes : ℕ → Answer → ℕ
goes u answer = once_at u (leaves_from answer)

unfoldable pub total : (Answer → ℕ) → List Answer → ℕ
total f [] = 0
total f (answer ∷ answers) = f answer + total f answers

-- how many trains the state has on a track
unfoldable pub shown : State → ℕ → ℕ
shown σ u = cond (eqb (train_at σ u) no_train) 0 1

-- Holds, from the answers alone: the route was granted and, after its latest grant, was not cancelled, and no train moved onto a release track
-- of the point.
pub record SinceGrant (p : Plan) (r x : ℕ) (answers : List Answer) : Type 0 where
  pub earlier : List Answer
  pub later : List Answer
  pub splits : answers ≡ earlier ++ (Done (Granted r) ∷ later)
  pub latest : All (λ answer. answer ≢ Done (Granted r)) later
  pub uncancelled : All (λ answer. answer ≢ Done (Cancelled r)) later
  pub unreleased : All (λ answer. (v : ℕ) → arrives_on answer ≡ Some v → Releases p r v x → ⊥) later

-- the route lists the point in the lie that it has: among its normal points where it lies normal, among its reverse points where it lies reverse
abbrev pub ListedAsItLies : Plan → State → ℕ → ℕ → Type 0
ListedAsItLies p σ r x = ((lie_at σ x ≡ normal_lie) × In x (route_of p r).normal) ⊎ ((lie_at σ x ≡ reverse_lie) × In x (route_of p r).reverse)

-- Demand 3, of the answers so far and the state.
pub record Safe (p : Plan) (answers : List Answer) (σ : State) : Type 0 where
  -- for each track, what came is what went and what is shown: no train or one, and one exactly if the state has a train there (this is what `shown`
  -- is, and with it `counted` says that what came less what went is 0 or 1)
  pub counted : (u : ℕ) → total (comes u) answers ≡ total (goes u) answers + shown σ u
  pub shown_most : (u : ℕ) → shown σ u ≤ 1
  pub shown_train : (u : ℕ) → (shown σ u ≡ 1) ↔ HasTrain σ u
  -- each route's hold of a point is there exactly when the answers say so, and all holders of a point list it in the lie it has
  pub held : (r x : ℕ) → Holds σ r x ↔ (Listed p r x × SinceGrant p r x answers)
  pub agreed : (r x : ℕ) → Holds σ r x → ListedAsItLies p σ r x
  -- the state is well formed: no train stands on two tracks, or where there is no track
  pub whole : WellFormed p σ
  -- no 40, 41 or 42 was answered (an Accident is one of these), and no 10 (IllFormed): events/specs/Answers.antt has the numbers
  pub unharmed : All (λ answer. (harm : Harm) → answer ≢ Accident harm) answers
  pub formed : All (λ answer. answer ≢ Refused IllFormed) answers

-- On every plan that reads and is accepted, from the fresh state, after any events. So after each of the events too: the first
-- of them are a list of events, and their history is the beginning of the whole one (proofs/Demand3.antt, history_first).
-- Every box that meets demand 2 meets it (proofs/Demand3.antt, demand2→demand3).
abbrev pub Demand3 : Box → Type 0
Demand3 box = (p : Plan) → Readable p → Sound p → (events : List Event) → Safe p (history box p fresh events) (reached box p fresh events)

-- 13 names the lowest track of the event's clear list that has a train, and the train that stands there (document 02, No. 3); and what is met there is
-- named, where no test before 13 applies. Every box that meets demand 2 is so (proofs/Agreement.antt, demand2→names_train).
pub record NamesTrain (box : Box) : Type 0 where
  pub names : (p : Plan) → Readable p → (σ : State) (event : Event) (u train : ℕ) → box.answer p σ event ≡ Refused (Occupied u train)
      → Meets p σ (clear_for p event) (Some (u, train))
  pub request : (p : Plan) → Readable p → (σ : State) → WellFormed p σ → (r : ℕ) → r < length p.routes → SignalRed p σ r
      → (u train : ℕ) → Meets p σ (route_of p r).clear (Some (u, train)) → box.answer p σ (Request r) ≡ Refused (Occupied u train)
  pub entry : (p : Plan) → Readable p → (σ : State) → WellFormed p σ → (e other : ℕ) → e < length p.entries → other ≢ no_train → (InPlan p σ other → ⊥)
      → (u train : ℕ) → Meets p σ (entry_of p e).clear (Some (u, train)) → box.answer p σ (Enter e other) ≡ Refused (Occupied u train)

-- a point that some route holds in a state, and that lies otherwise in another
abbrev pub HeldTurned : State → State → ℕ → Type 0
HeldTurned σ τ q = ((k : ℕ) × Holds σ k q) × (lie_at τ q ≢ lie_at σ q)

-- 14 is said to requests alone, past 10 to 13, and names the lowest point that some route holds and that lies otherwise than the grant would leave it, τ
-- being what the grant would leave (document 02, No. 4); and there it is said, where no test before 14 applies. What is granted turns no point that is
-- held. Every box that meets demand 2 is so (proofs/Agreement.antt, demand2→names_held).
pub record NamesHeld (box : Box) : Type 0 where
  pub names : (p : Plan) → Readable p → (σ : State) (event : Event) (q : ℕ) → box.answer p σ event ≡ Refused (Held q)
      → WellFormed p σ
      × ((r : ℕ) × (event ≡ Request r) × (r < length p.routes) × SignalRed p σ r × NoSuch (Busy p σ (route_of p r).clear) × ((τ : State) × AfterGrant p σ τ r × LowestSuch (HeldTurned σ τ) q))
  pub request : (p : Plan) → Readable p → (σ τ : State) → WellFormed p σ → (r : ℕ) → r < length p.routes → SignalRed p σ r
      → NoSuch (Busy p σ (route_of p r).clear) → AfterGrant p σ τ r → (q : ℕ) → LowestSuch (HeldTurned σ τ) q → box.answer p σ (Request r) ≡ Refused (Held q)
  pub still : (p : Plan) → Readable p → (σ : State) (r k q : ℕ) → box.answer p σ (Request r) ≡ Done (Granted r) → Holds σ k q
      → lie_at (box.next p σ (Request r)) q ≡ lie_at σ q

-- Who holds a point after a deed: several routes may, and each gives back only its own hold (document 02, No. 4). Of any plan that reads and any state. Every
-- box that meets demand 2 is so (proofs/Settled.antt, demand2→own_holds).
pub record OwnHolds (box : Box) (p : Plan) (σ : State) (event : Event) (k q : ℕ) : Type 0 where
  -- a grant adds the route's hold of each listed point, and takes none
  pub granted : (r : ℕ) → box.answer p σ event ≡ Done (Granted r) → Holds (box.next p σ event) k q ↔ (Holds σ k q ⊎ ((k ≡ r) × Listed p r q))
  -- a cancel drops the holds of its route, an arrival on v those that have (v, q) in their own release list
  pub cancelled : (r : ℕ) → box.answer p σ event ≡ Done (Cancelled r) → Holds (box.next p σ event) k q ↔ ((k ≢ r) × Holds σ k q)
  pub moved : (train u v : ℕ) → box.answer p σ event ≡ Done (Moved train u v) → Holds (box.next p σ event) k q ↔ ((Releases p k v q → ⊥) × Holds σ k q)
  -- an entry and a leaving change none
  pub entered : (train u : ℕ) → box.answer p σ event ≡ Done (Entered train u) → Holds (box.next p σ event) k q ↔ Holds σ k q
  pub left : (train u : ℕ) → box.answer p σ event ≡ Done (Left train u) → Holds (box.next p σ event) k q ↔ Holds σ k q

abbrev pub KeepsOwn : Box → Type 0
KeepsOwn box = (p : Plan) → Readable p → (σ : State) (event : Event) (k q : ℕ) → OwnHolds box p σ event k q

-- On every plan that reads, accepted or not, from the fresh state, after any events: a point lies as each of its holders would leave it, so that nobody's
-- own hold is ever in his way. Every box that meets demand 2 is so (proofs/Settled.antt, demand2→settled).
abbrev pub Settled : Box → Type 0
Settled box =
    (p : Plan) → Readable p → (events : List Event) (r q : ℕ) → Holds (reached box p fresh events) r q → OtherLie p (reached box p fresh events) r q → ⊥

-- Agreement: two well-formed states that agree on what a request looks at give it the same answer. Every box that meets demand 2 is so
-- (proofs/Agreement.antt, demand2→agreement).
abbrev pub Agreement : Box → Type 0
Agreement box =
    (p : Plan) → Readable p → (r : ℕ) (σ τ : State) → WellFormed p σ → WellFormed p τ → Alike p r σ τ
    → box.answer p σ (Request r) ≡ box.answer p τ (Request r)
