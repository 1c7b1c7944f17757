-- The state after an answer: a deed goes array by array, each a function of that array, the plan and the deed alone; nothing else changes anything.
use Rattle.std.specs.Prelude.{Bool, cond, List, ℕ, zero, suc, ◌<◌, length, get_or, eqb, None, Option, Some}
use Rattle.laws.specs.Tables.{tab}
use Rattle.laws.specs.Sets.{excluding}
use Rattle.plan.specs.Limits.{most_tracks, most_signals}
use Rattle.plan.specs.Records.{Plan, route_of}
use Rattle.plan.specs.Layout.{stands_at}
use Rattle.plan.specs.Routes.{listed, releases}
use Rattle.state.specs.declared.State.{State}
use Rattle.state.specs.Holds.{adding}
use Rattle.state.specs.State.{state_of, no_train, red, green_for}
use Rattle.events.specs.declared.Event.{Event}
use Rattle.events.specs.declared.Deed.{Deed}
use Rattle.events.specs.declared.Deed.TheVariants.{Granted, Cancelled, Entered, Moved, Left}
use Rattle.events.specs.declared.Answer.{Answer}
use Rattle.events.specs.Answers.{if_done, deed_arrives, deed_leaves}
use Rattle.events.specs.Decide.{lie_after, answer}

-- A train comes to stand on a track; a train is gone from one. A move is both.

unfoldable pub stood : ℕ → ℕ → List ℕ → ℕ → ℕ
stood train v trains u = cond (eqb u v) train (get_or trains u no_train)

unfoldable pub gone : ℕ → List ℕ → ℕ → ℕ
gone v trains u = cond (eqb u v) no_train (get_or trains u no_train)

unfoldable pub new_trains : List ℕ → Deed → List ℕ
new_trains trains (Granted r) = trains
new_trains trains (Cancelled r) = trains
new_trains trains (Entered train u) = tab most_tracks (stood train u trains)
new_trains trains (Moved train u v) = tab most_tracks (gone u (tab most_tracks (stood train v trains)))
new_trains trains (Left train u) = tab most_tracks (gone u trains)

-- Lies: only a grant turns points.

unfoldable pub new_lies : Plan → List ℕ → Deed → List ℕ
new_lies p lies (Granted r) = tab most_tracks (lie_after (route_of p r).normal (route_of p r).reverse lies)
new_lies p lies (Cancelled r) = lies
new_lies p lies (Entered train u) = lies
new_lies p lies (Moved train u v) = lies
new_lies p lies (Left train u) = lies

-- Holds: a grant takes the listed points, a cancel drops all holds of the route; then an arrival on v drops each route's hold of q where (v, q) is
-- in its release list.

unfoldable pub taken : ℕ → List ℕ → List ℕ → List ℕ → ℕ → ℕ
taken r normal reverse holds q = cond (listed normal reverse q) (adding (get_or holds q 0) r) (get_or holds q 0)

unfoldable pub dropped : ℕ → List ℕ → ℕ → ℕ
dropped r holds q = excluding (get_or holds q 0) r

-- of the routes below n those that f names are dropped
unfoldable pub dropped_all : ℕ → (ℕ → Bool) → ℕ → ℕ
dropped_all zero f set = set
dropped_all (suc n) f set = cond (f n) (excluding (dropped_all n f set) n) (dropped_all n f set)

unfoldable pub arrived : Plan → ℕ → List ℕ → ℕ → ℕ
arrived p v holds q = dropped_all (length p.routes) (λ r. releases p r v q) (get_or holds q 0)

-- by a grant and by a cancel
unfoldable pub route_holds : Plan → List ℕ → Deed → List ℕ
route_holds p holds (Granted r) = tab most_tracks (taken r (route_of p r).normal (route_of p r).reverse holds)
route_holds p holds (Cancelled r) = tab most_tracks (dropped r holds)
route_holds p holds (Entered train u) = holds
route_holds p holds (Moved train u v) = holds
route_holds p holds (Left train u) = holds

-- by an arrival, if there is one
unfoldable pub given_back : Plan → Option ℕ → List ℕ → List ℕ
given_back p (Some v) holds = tab most_tracks (arrived p v holds)
given_back p None holds = holds

unfoldable pub new_holds : Plan → List ℕ → Deed → List ℕ
new_holds p holds deed = given_back p (deed_arrives deed) (route_holds p holds deed)

-- Signals: a grant turns the route's signal green for it, a cancel red; then a signal on the track left goes red.

unfoldable pub shown : ℕ → ℕ → List ℕ → ℕ → ℕ
shown start colour signals s = cond (eqb s start) colour (get_or signals s red)

unfoldable pub reddened : Plan → ℕ → List ℕ → ℕ → ℕ
reddened p u signals s = cond (stands_at p u s) red (get_or signals s red)

-- by a grant and by a cancel
unfoldable pub route_signals : Plan → List ℕ → Deed → List ℕ
route_signals p signals (Granted r) = tab most_signals (shown (route_of p r).start (green_for r) signals)
route_signals p signals (Cancelled r) = tab most_signals (shown (route_of p r).start red signals)
route_signals p signals (Entered train u) = signals
route_signals p signals (Moved train u v) = signals
route_signals p signals (Left train u) = signals

-- by leaving a track, if one is left
unfoldable pub red_behind : Plan → Option ℕ → List ℕ → List ℕ
red_behind p (Some u) signals = tab most_signals (reddened p u signals)
red_behind p None signals = signals

unfoldable pub new_signals : Plan → List ℕ → Deed → List ℕ
new_signals p signals deed = red_behind p (deed_leaves deed) (route_signals p signals deed)

unfoldable pub after_deed : Plan → State → Deed → State
after_deed p σ deed = state_of (new_trains σ.trains deed) (new_lies p σ.lies deed) (new_holds p σ.holds deed) (new_signals p σ.signals deed)

-- a refusal or an accident changes nothing
unfoldable pub after : Plan → State → Answer → State
after p σ a = if_done σ (after_deed p σ) a

-- the state after an event
unfoldable pub next_state : Plan → State → Event → State
next_state p σ event = after p σ (answer p σ event)

-- A deed that a plan can be acted on for: what it names is there.
unfoldable pub Names : Plan → Deed → Type 0
Names p (Granted r) = r < length p.routes
Names p (Cancelled r) = r < length p.routes
Names p (Entered train u) = u < length p.tracks
Names p (Moved train u v) = (u < length p.tracks) × (v < length p.tracks)
Names p (Left train u) = u < length p.tracks

unfoldable pub Acts : Plan → Answer → Type 0
Acts p a = if_done Unit (Names p) a
