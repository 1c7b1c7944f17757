-- What the answers and the state after them mean, in the words of document 01, "State and events".
use Rattle.std.specs.Prelude.{◌≡◌, true, false, ◌≢◌, ◌⊎◌, List, [], ℕ, ◌<◌, length, None, Option, Some}
use Rattle.laws.specs.Lists.{In}
use Rattle.laws.specs.Answers.{NoSuch, LowestSuch, Table, last, asks, needs, names, the, Gives}
use Rattle.plan.specs.Kinds.{out, leg, Exit, Legged}
use Rattle.plan.specs.Records.{Plan, home_of, route_of, entry_of, track_of}
use Rattle.plan.specs.Layout.{StandsAt}
use Rattle.plan.specs.Routes.{Listed, Releases}
use Rattle.state.specs.declared.State.{State}
use Rattle.state.specs.State.{no_train, normal_lie, reverse_lie, red, green_for, train_at, lie_at, held_by, shown_at, HasTrain, Holds, WellFormed}
use Rattle.events.specs.declared.Event.{Event}
use Rattle.events.specs.declared.Event.TheVariants.{Request, Cancel, Enter, Move, Unknown}
use Rattle.events.specs.declared.Refusal.TheVariants.{IllFormed, BadEvent, NotRed, Occupied, Held, NotGreen, HomeOccupied, TrainIn, TrainOut, Red}
use Rattle.events.specs.declared.Harm.TheVariants.{Collision, RunThrough, Derailment}
use Rattle.events.specs.declared.Deed.{Deed}
use Rattle.events.specs.declared.Deed.TheVariants.{Granted, Cancelled, Entered, Moved, Left}
use Rattle.events.specs.declared.Answer.{Answer}
use Rattle.events.specs.declared.Answer.TheVariants.{Refused, Accident, Done}

-- the clear list that an event looks at: its route's or its entry's; the others look at none
abbrev pub clear_for : Plan → Event → List ℕ
clear_for p (Request r) = (route_of p r).clear
clear_for p (Cancel r) = []
clear_for p (Enter e train) = (entry_of p e).clear
clear_for p (Move train) = []
clear_for p Unknown = []

-- What the table speaks of.
module _ (p : Plan) (σ : State) where
  -- a track of a clear list has a train
  abbrev pub Busy : List ℕ → ℕ → Type 0
  Busy clear u = In u clear × HasTrain σ u

  -- what is met on a clear list: the lowest of its tracks that has a train, and the train that stands there; or nobody, where none has one
  abbrev pub Meets : List ℕ → Option (ℕ × ℕ) → Type 0
  Meets clear (Some (u, train)) = LowestSuch (Busy clear) u × (train_at σ u ≡ train)
  Meets clear None = NoSuch (Busy clear)

  -- the point lies otherwise than the grant would leave it: reverse wins, and one that is not listed never does
  abbrev pub OtherLie : ℕ → ℕ → Type 0
  OtherLie r q =
      (In q (route_of p r).reverse × (lie_at σ q ≢ reverse_lie))
      ⊎ ((In q (route_of p r).reverse → ⊥) × In q (route_of p r).normal × (lie_at σ q ≢ normal_lie))

  -- a listed point is held by any route, the one that asks too, and lies otherwise than the grant would leave it
  abbrev pub HeldOther : ℕ → ℕ → Type 0
  HeldOther r q = ((k : ℕ) × Holds σ k q) × OtherLie r q

  -- a point that has a train would get another lie in the end
  abbrev pub Derails : ℕ → ℕ → Type 0
  Derails r q = HasTrain σ q × OtherLie r q

  -- the train stands on the track; the train is in the plan
  abbrev pub FrontAt : ℕ → ℕ → Type 0
  FrontAt train u = train_at σ u ≡ train

  abbrev pub InPlan : ℕ → Type 0
  InPlan train = (u : ℕ) × FrontAt train u

  -- the track's end has a red signal
  abbrev pub RedAt : ℕ → ℕ → Type 0
  RedAt u s = StandsAt p u s × (shown_at σ s ≡ red)

  -- the track that the train goes to: the next one, by the lie if on a facing point
  abbrev pub Next : ℕ → ℕ → Type 0
  Next u v = ((lie_at σ u ≡ normal_lie) × (out (track_of p u) false ≡ v)) ⊎ ((lie_at σ u ≡ reverse_lie) × (out (track_of p u) true ≡ v))

  -- the track entered is a trailing point and the track left is not its leg for its present lie
  abbrev pub RunsThrough : ℕ → ℕ → Type 0
  RunsThrough u v =
      Legged (track_of p v) × (((lie_at σ v ≡ normal_lie) × (leg (track_of p v) false ≢ u)) ⊎ ((lie_at σ v ≡ reverse_lie) × (leg (track_of p v) true ≢ u)))

  abbrev pub SignalRed : ℕ → Type 0
  SignalRed r = shown_at σ (route_of p r).start ≡ red

  abbrev pub SignalGreen : ℕ → Type 0
  SignalGreen r = shown_at σ (route_of p r).start ≡ green_for r

  abbrev pub HomeOf : ℕ → ℕ
  HomeOf r = home_of p (route_of p r).start

  -- The table of answers, one for each kind of event. 11 stands first in each: no such route or entry, or train number 0.

  -- 11, 12, 13, 14, 42
  unfoldable pub request_table : ℕ → Table Answer
  request_table r =
      needs (r < length p.routes) (Refused BadEvent)
      (needs (SignalRed r) (Refused NotRed)
      (names (Busy (route_of p r).clear) (λ u. Refused (Occupied u (train_at σ u)))
      (names (HeldOther r) (λ q. Refused (Held q))
      (names (Derails r) (λ q. Accident (Derailment q))
      (last (Done (Granted r)))))))

  -- 11, 15, 16
  unfoldable pub cancel_table : ℕ → Table Answer
  cancel_table r =
      needs (r < length p.routes) (Refused BadEvent)
      (needs (SignalGreen r) (Refused NotGreen)
      (asks (HasTrain σ (HomeOf r)) (Refused (HomeOccupied (HomeOf r)))
      (last (Done (Cancelled r)))))

  -- 11, 17, 13, 40
  unfoldable pub enter_table : ℕ → ℕ → Table Answer
  enter_table e train =
      needs ((e < length p.entries) × (train ≢ no_train)) (Refused BadEvent)
      (asks (InPlan train) (Refused TrainIn)
      (names (Busy (entry_of p e).clear) (λ u. Refused (Occupied u (train_at σ u)))
      (asks (HasTrain σ (entry_of p e).track) (Accident (Collision (entry_of p e).track))
      (last (Done (Entered train (entry_of p e).track))))))

  -- 11, 18, 19, 40, 41; from an exit the train leaves
  unfoldable pub move_table : ℕ → Table Answer
  move_table train =
      needs (train ≢ no_train) (Refused BadEvent)
      (needs (InPlan train) (Refused TrainOut)
      (the (FrontAt train) λ u.
      names (RedAt u) (λ s. Refused (Red s))
      (asks (Exit (track_of p u)) (Done (Left train u))
      (the (Next u) λ v.
      asks (HasTrain σ v) (Accident (Collision v))
      (asks (RunsThrough u v) (Accident (RunThrough v))
      (last (Done (Moved train u v))))))))

  -- 11 for what is no event: an unknown kind, an unused byte that is not 0, an incomplete last event
  unfoldable pub event_table : Event → Table Answer
  event_table (Request r) = request_table r
  event_table (Cancel r) = cancel_table r
  event_table (Enter e train) = enter_table e train
  event_table (Move train) = move_table train
  event_table Unknown = last (Refused BadEvent)

  -- 10, and then the event's own
  unfoldable pub table_of : Event → Table Answer
  table_of event = needs (WellFormed p σ) (Refused IllFormed) (event_table event)

  -- the table gives the event this answer
  pub record Given (event : Event) (a : Answer) : Type 0 where
    pub row : Gives (table_of event) a

-- What a state τ shows after a deed, for each kind of cell: what it becomes, and that every other cell is as before.

module _ (σ τ : State) where
  abbrev pub SameTrains : Type 0
  SameTrains = (u : ℕ) → train_at τ u ≡ train_at σ u

  abbrev pub SameLies : Type 0
  SameLies = (q : ℕ) → lie_at τ q ≡ lie_at σ q

  abbrev pub SameHolds : Type 0
  SameHolds = (k q : ℕ) → held_by τ k q ≡ held_by σ k q

  abbrev pub SameSignals : Type 0
  SameSignals = (s : ℕ) → shown_at τ s ≡ shown_at σ s

-- a request granted: the normal points go normal, then the reverse points reverse; all are held by the route; the signal is green for it
pub record AfterGrant (p : Plan) (σ τ : State) (r : ℕ) : Type 0 where
  pub trains : SameTrains σ τ
  pub reverse : (q : ℕ) → In q (route_of p r).reverse → lie_at τ q ≡ reverse_lie
  pub normal : (q : ℕ) → In q (route_of p r).normal → (In q (route_of p r).reverse → ⊥) → lie_at τ q ≡ normal_lie
  pub other_lies : (q : ℕ) → (Listed p r q → ⊥) → lie_at τ q ≡ lie_at σ q
  pub holds : (q : ℕ) → Listed p r q → Holds τ r q
  pub other_holds : (k q : ℕ) → (k ≢ r) ⊎ (Listed p r q → ⊥) → held_by τ k q ≡ held_by σ k q
  pub signal : shown_at τ (route_of p r).start ≡ green_for r
  pub other_signals : (s : ℕ) → s ≢ (route_of p r).start → shown_at τ s ≡ shown_at σ s

-- cancelled: the signal red, all holds of the route dropped
pub record AfterCancel (p : Plan) (σ τ : State) (r : ℕ) : Type 0 where
  pub trains : SameTrains σ τ
  pub lies : SameLies σ τ
  pub holds : (q : ℕ) → Holds τ r q → ⊥
  pub other_holds : (k q : ℕ) → k ≢ r → held_by τ k q ≡ held_by σ k q
  pub signal : shown_at τ (route_of p r).start ≡ red
  pub other_signals : (s : ℕ) → s ≢ (route_of p r).start → shown_at τ s ≡ shown_at σ s

-- entered: the train stands on the track; no hold is dropped
pub record AfterEntry (σ τ : State) (train u : ℕ) : Type 0 where
  pub stands : train_at τ u ≡ train
  pub other_trains : (x : ℕ) → x ≢ u → train_at τ x ≡ train_at σ x
  pub lies : SameLies σ τ
  pub holds : SameHolds σ τ
  pub signals : SameSignals σ τ

-- the train goes from u to v: a signal on the track left goes red; each route's hold of q is dropped where (v, q) is in its release list
pub record AfterMove (p : Plan) (σ τ : State) (train u v : ℕ) : Type 0 where
  pub stands : train_at τ v ≡ train
  pub behind : train_at τ u ≡ no_train
  pub other_trains : (x : ℕ) → x ≢ u → x ≢ v → train_at τ x ≡ train_at σ x
  pub lies : SameLies σ τ
  pub holds : (k q : ℕ) → Releases p k v q → Holds τ k q → ⊥
  pub other_holds : (k q : ℕ) → (Releases p k v q → ⊥) → held_by τ k q ≡ held_by σ k q
  pub signal : (s : ℕ) → StandsAt p u s → shown_at τ s ≡ red
  pub other_signals : (s : ℕ) → (StandsAt p u s → ⊥) → shown_at τ s ≡ shown_at σ s

-- left: the train is outside; a signal on the track left goes red
pub record AfterLeaving (p : Plan) (σ τ : State) (u : ℕ) : Type 0 where
  pub behind : train_at τ u ≡ no_train
  pub other_trains : (x : ℕ) → x ≢ u → train_at τ x ≡ train_at σ x
  pub lies : SameLies σ τ
  pub holds : SameHolds σ τ
  pub signal : (s : ℕ) → StandsAt p u s → shown_at τ s ≡ red
  pub other_signals : (s : ℕ) → (StandsAt p u s → ⊥) → shown_at τ s ≡ shown_at σ s

abbrev pub FollowsDeed : Plan → State → State → Deed → Type 0
FollowsDeed p σ τ (Granted r) = AfterGrant p σ τ r
FollowsDeed p σ τ (Cancelled r) = AfterCancel p σ τ r
FollowsDeed p σ τ (Entered train u) = AfterEntry σ τ train u
FollowsDeed p σ τ (Moved train u v) = AfterMove p σ τ train u v
FollowsDeed p σ τ (Left train u) = AfterLeaving p σ τ u

-- the state τ after an answer: a refusal or an accident changes nothing at all
abbrev pub Follows : Plan → State → State → Answer → Type 0
Follows p σ τ (Refused refusal) = τ ≡ σ
Follows p σ τ (Accident harm) = τ ≡ σ
Follows p σ τ (Done deed) = FollowsDeed p σ τ deed

-- Two states that agree on a route's signal, its clear-list tracks, and the holds, lies and trains of its listed points.
pub record Alike (p : Plan) (r : ℕ) (σ τ : State) : Type 0 where
  pub signal : shown_at σ (route_of p r).start ≡ shown_at τ (route_of p r).start
  pub clear : (u : ℕ) → In u (route_of p r).clear → train_at σ u ≡ train_at τ u
  pub holds : (k q : ℕ) → Listed p r q → held_by σ k q ≡ held_by τ k q
  pub lies : (q : ℕ) → Listed p r q → lie_at σ q ≡ lie_at τ q
  pub trains : (q : ℕ) → Listed p r q → train_at σ q ≡ train_at τ q
