-- The answer to an event: the tests of document 01, "State and events", in its order. The first that applies is the answer.
use Rattle.std.specs.Prelude.{Bool, true, false, not, cond, ◌&&◌, List, ℕ, length, get_or, eqb, ltb, None, Option, Some}
use Rattle.laws.specs.Lists.{has}
use Rattle.laws.specs.Search.{lowest, unless}
use Rattle.plan.specs.Kinds.{exit, legged, out, leg}
use Rattle.plan.specs.Records.{Plan, home_of, route_of, entry_of, track_of}
use Rattle.plan.specs.Layout.{signal_at}
use Rattle.state.specs.declared.State.{State}
use Rattle.state.specs.Holds.{empty}
use Rattle.state.specs.State.{no_train, normal_lie, reverse_lie, red, green_for, well_formed}
use Rattle.events.specs.declared.Event.{Event}
use Rattle.events.specs.declared.Event.TheVariants.{Request, Cancel, Enter, Move, Unknown}
use Rattle.events.specs.declared.Refusal.TheVariants.{IllFormed, BadEvent, NotRed, Occupied, Held, NotGreen, HomeOccupied, TrainIn, TrainOut, Red}
use Rattle.events.specs.declared.Harm.TheVariants.{Collision, RunThrough, Derailment}
use Rattle.events.specs.declared.Deed.TheVariants.{Granted, Cancelled, Entered, Moved, Left}
use Rattle.events.specs.declared.Answer.{Answer}
use Rattle.events.specs.declared.Answer.TheVariants.{Refused, Accident, Done}

-- The tests of one cell.

unfoldable pub has_train : List ℕ → ℕ → Bool
has_train trains u = not (eqb (get_or trains u no_train) no_train)

unfoldable pub is_red : List ℕ → ℕ → Bool
is_red signals s = eqb (get_or signals s red) red

unfoldable pub is_green : List ℕ → ℕ → ℕ → Bool
is_green signals s r = eqb (get_or signals s red) (green_for r)

unfoldable pub is_reverse : List ℕ → ℕ → Bool
is_reverse lies q = eqb (get_or lies q normal_lie) reverse_lie

-- some route holds the point
unfoldable pub is_held : List ℕ → ℕ → Bool
is_held holds q = not (empty (get_or holds q 0))

-- a track of the clear list has a train
unfoldable pub busy : List ℕ → List ℕ → ℕ → Bool
busy clear trains u = has_train trains u && has u clear

-- the lie in the end: normal points go normal, then reverse points reverse
unfoldable pub lie_after : List ℕ → List ℕ → List ℕ → ℕ → ℕ
lie_after normal reverse lies q = cond (has q reverse) reverse_lie (cond (has q normal) normal_lie (get_or lies q normal_lie))

-- the point lies otherwise than the grant would leave it; one that is not listed never does
unfoldable pub turns : List ℕ → List ℕ → List ℕ → ℕ → Bool
turns normal reverse lies q = not (eqb (lie_after normal reverse lies q) (get_or lies q normal_lie))

-- a listed point is held by any route and lies otherwise than the grant would leave it
unfoldable pub held_other : List ℕ → List ℕ → List ℕ → List ℕ → ℕ → Bool
held_other normal reverse lies holds q = is_held holds q && turns normal reverse lies q

-- a point that has a train gets another lie in the end
unfoldable pub derails : List ℕ → List ℕ → List ℕ → List ℕ → ℕ → Bool
derails normal reverse trains lies q = has_train trains q && turns normal reverse lies q

-- the train stands on the track
unfoldable pub stands : List ℕ → ℕ → ℕ → Bool
stands trains train u = eqb (get_or trains u no_train) train

-- The tests of a list: the lowest track or point is named, and a track with its train.

-- a track that was found, with the train that stands on it, or nobody
abbrev pub with_train : List ℕ → Option ℕ → Option (ℕ × ℕ)
with_train trains (Some u) = Some (u, get_or trains u no_train)
with_train trains None = None

-- the lowest track of the clear list that has a train, and the train that stands there
unfoldable pub busy_train : ℕ → List ℕ → List ℕ → Option (ℕ × ℕ)
busy_train tracks clear trains = with_train trains (lowest tracks (busy clear trains))

-- the answer for a train in the way, or else the rest of the chain
unfoldable pub unless_train : Option (ℕ × ℕ) → (ℕ → ℕ → Answer) → Answer → Answer
unless_train (Some (u, train)) f rest = f u train
unless_train None f rest = rest

unfoldable pub held_point : ℕ → List ℕ → List ℕ → List ℕ → List ℕ → Option ℕ
held_point tracks normal reverse lies holds = lowest tracks (held_other normal reverse lies holds)

unfoldable pub derailed_point : ℕ → List ℕ → List ℕ → List ℕ → List ℕ → Option ℕ
derailed_point tracks normal reverse trains lies = lowest tracks (derails normal reverse trains lies)

-- Where a train is: the track that it stands on, and whether it is in the plan at all.

unfoldable pub front_of : Plan → List ℕ → ℕ → Option ℕ
front_of p trains train = lowest (length p.tracks) (stands trains train)

abbrev pub is_found : Option ℕ → Bool
is_found (Some x) = true
is_found None = false

unfoldable pub in_plan : Plan → List ℕ → ℕ → Bool
in_plan p trains train = is_found (front_of p trains train)

-- Where a train goes.

-- the signal at the track's end, if it is red
abbrev pub if_red : List ℕ → Option ℕ → Option ℕ
if_red signals (Some s) = cond (is_red signals s) (Some s) None
if_red signals None = None

unfoldable pub red_at : Plan → List ℕ → ℕ → Option ℕ
red_at p signals u = if_red signals (signal_at p u)

-- the next track, by the lie if on a facing point
unfoldable pub way_out : Plan → List ℕ → ℕ → ℕ
way_out p lies u = out (track_of p u) (is_reverse lies u)

-- the track entered is a trailing point and the track left is not its leg for its present lie
unfoldable pub runs_through : Plan → List ℕ → ℕ → ℕ → Bool
runs_through p lies u v = legged (track_of p v) && not (eqb (leg (track_of p v) (is_reverse lies v)) u)

-- The four events. Each looks at the arrays that it names, and at no other.
module _ (p : Plan) where
  -- 12, 13, 14, 42
  unfoldable pub answer_request : State → ℕ → Answer
  answer_request σ r =
      cond (is_red σ.signals (route_of p r).start)
      (unless_train (busy_train (length p.tracks) (route_of p r).clear σ.trains) (λ u train. Refused (Occupied u train))
      (unless (held_point (length p.tracks) (route_of p r).normal (route_of p r).reverse σ.lies σ.holds) (λ q. Refused (Held q))
      (unless (derailed_point (length p.tracks) (route_of p r).normal (route_of p r).reverse σ.trains σ.lies) (λ q. Accident (Derailment q))
      (Done (Granted r)))))
      (Refused NotRed)

  -- 15, 16
  unfoldable pub answer_cancel : List ℕ → List ℕ → ℕ → Answer
  answer_cancel trains signals r =
      cond (is_green signals (route_of p r).start r)
      (cond (has_train trains (home_of p (route_of p r).start)) (Refused (HomeOccupied (home_of p (route_of p r).start)))
      (Done (Cancelled r)))
      (Refused NotGreen)

  -- 17, 13, 40
  unfoldable pub answer_enter : List ℕ → ℕ → ℕ → Answer
  answer_enter trains e train =
      cond (in_plan p trains train) (Refused TrainIn)
      (unless_train (busy_train (length p.tracks) (entry_of p e).clear trains) (λ u other. Refused (Occupied u other))
      (cond (has_train trains (entry_of p e).track) (Accident (Collision (entry_of p e).track))
      (Done (Entered train (entry_of p e).track))))

  -- 40, 41
  unfoldable pub move_to : List ℕ → List ℕ → ℕ → ℕ → ℕ → Answer
  move_to trains lies train u v =
      cond (has_train trains v) (Accident (Collision v))
      (cond (runs_through p lies u v) (Accident (RunThrough v))
      (Done (Moved train u v)))

  -- 19; from an exit the train leaves
  unfoldable pub move_from : List ℕ → List ℕ → List ℕ → ℕ → ℕ → Answer
  move_from trains lies signals train u =
      unless (red_at p signals u) (λ s. Refused (Red s))
      (cond (exit (track_of p u)) (Done (Left train u))
      (move_to trains lies train u (way_out p lies u)))

  -- 18
  unfoldable pub answer_move : List ℕ → List ℕ → List ℕ → ℕ → Answer
  answer_move trains lies signals train = unless (front_of p trains train) (move_from trains lies signals train) (Refused TrainOut)

  -- 11
  unfoldable pub decided : State → Event → Answer
  decided σ (Request r) = cond (ltb r (length p.routes)) (answer_request σ r) (Refused BadEvent)
  decided σ (Cancel r) = cond (ltb r (length p.routes)) (answer_cancel σ.trains σ.signals r) (Refused BadEvent)
  decided σ (Enter e train) = cond (ltb e (length p.entries) && not (eqb train no_train)) (answer_enter σ.trains e train) (Refused BadEvent)
  decided σ (Move train) = cond (eqb train no_train) (Refused BadEvent) (answer_move σ.trains σ.lies σ.signals train)
  decided σ Unknown = Refused BadEvent

  -- 10
  unfoldable pub answer : State → Event → Answer
  answer σ event = cond (well_formed p σ) (decided σ event) (Refused IllFormed)
