-- The state of document 01: what it shows, the fresh state, and when a state is well formed. `State` is the code's own struct (src/lib.rt).
use Rattle.std.specs.Prelude.{◌≡◌, Bool, true, not, ◌&&◌, ◌||◌, ◌≢◌, ◌⊎◌, List, ℕ, zero, suc, ◌+◌, ◌<◌, ◌≤◌, length, get_or, drop, replicate, eqb, ltb}
use Rattle.laws.specs.Tests.{Is}
use Rattle.laws.specs.Lists.{has, all_of, empty_from}
use Rattle.laws.specs.Search.{all_below}
use Rattle.laws.specs.Sets.{member}
use Rattle.plan.specs.Limits.{most_tracks, most_signals}
use Rattle.plan.specs.Kinds.{is_point}
use Rattle.plan.specs.Records.{Plan, route_of}
use Rattle.state.specs.declared.State.{State}
use Rattle.state.specs.Holds.{empty, within}

abbrev pub state_of : List ℕ → List ℕ → List ℕ → List ℕ → State
state_of trains lies holds signals = record { trains = trains; lies = lies; holds = holds; signals = signals }

-- What stands in the cells: no train; the two lies; red, and green for a route.

abbrev pub no_train : ℕ
no_train = 0

abbrev pub normal_lie : ℕ
normal_lie = 0

abbrev pub reverse_lie : ℕ
reverse_lie = 1

abbrev pub red : ℕ
red = 0

abbrev pub green_for : ℕ → ℕ
green_for r = suc r

-- What a state shows: the train on a track, the lie of a point, whether a route holds a point, what a signal shows.
module _ (σ : State) where
  unfoldable pub train_at : ℕ → ℕ
  train_at u = get_or σ.trains u no_train

  unfoldable pub lie_at : ℕ → ℕ
  lie_at q = get_or σ.lies q normal_lie

  unfoldable pub held_by : ℕ → ℕ → Bool
  held_by r q = member (get_or σ.holds q 0) r

  unfoldable pub shown_at : ℕ → ℕ
  shown_at s = get_or σ.signals s red

  -- the track has a train; the route holds the point
  abbrev pub HasTrain : ℕ → Type 0
  HasTrain u = train_at u ≢ no_train

  abbrev pub Holds : ℕ → ℕ → Type 0
  Holds r q = Is (held_by r q)

-- Fresh: no trains, all normal, nothing held, all red.
unfoldable pub fresh : State
fresh = state_of (replicate most_tracks no_train) (replicate most_tracks normal_lie) (replicate most_tracks 0) (replicate most_signals red)

-- The tests of a well-formed state, in the document's order.

-- no train appears twice: none stands on a later track too
unfoldable pub again : List ℕ → ℕ → Bool
again trains u = not (eqb (get_or trains u no_train) no_train) && has (get_or trains u no_train) (drop (u + 1) trains)

unfoldable pub once : List ℕ → Bool
once trains = all_below (length trains) (λ u. not (again trains u))

-- only points are held or reverse
unfoldable pub point_or : Plan → List ℕ → List ℕ → ℕ → Bool
point_or p lies holds u = (eqb (get_or lies u normal_lie) normal_lie && empty (get_or holds u 0)) || is_point p.tracks u

unfoldable pub points_only : Plan → List ℕ → List ℕ → Bool
points_only p lies holds = all_below (length p.tracks) (point_or p lies holds)

-- a green names a route that starts at that signal
unfoldable pub green_names : Plan → ℕ → ℕ → Bool
green_names p s zero = true
green_names p s (suc r) = ltb r (length p.routes) && eqb (route_of p r).start s

unfoldable pub named_at : Plan → List ℕ → ℕ → Bool
named_at p signals s = green_names p s (get_or signals s red)

unfoldable pub greens_name : Plan → List ℕ → Bool
greens_name p signals = all_below (length p.signals) (named_at p signals)

-- a lie is normal or reverse
unfoldable pub lies_known : List ℕ → Bool
lies_known lies = all_of (λ lie. ltb lie 2) lies

unfoldable pub well_formed : Plan → State → Bool
well_formed p σ =
    once σ.trains
    && empty_from (length p.tracks) σ.trains
    && empty_from (length p.tracks) σ.lies
    && empty_from (length p.tracks) σ.holds
    && empty_from (length p.signals) σ.signals
    && all_of (within (length p.routes)) σ.holds
    && points_only p σ.lies σ.holds
    && greens_name p σ.signals
    && lies_known σ.lies

-- The sentences that the tests stand for.
pub record WellFormed (p : Plan) (σ : State) : Type 0 where
  -- no train appears twice
  pub once : (u v : ℕ) → HasTrain σ u → train_at σ u ≡ train_at σ v → u ≡ v
  -- everything beyond the plan's counts is empty, holds of routes beyond the count too
  pub trains_end : (u : ℕ) → length p.tracks ≤ u → train_at σ u ≡ no_train
  pub lies_end : (q : ℕ) → length p.tracks ≤ q → lie_at σ q ≡ normal_lie
  pub holds_end : (r q : ℕ) → length p.tracks ≤ q → Holds σ r q → ⊥
  pub signals_end : (s : ℕ) → length p.signals ≤ s → shown_at σ s ≡ red
  pub routes_end : (r q : ℕ) → length p.routes ≤ r → Holds σ r q → ⊥
  -- only points are held or reverse
  pub held_point : (r q : ℕ) → Holds σ r q → Is (is_point p.tracks q)
  pub reverse_point : (q : ℕ) → lie_at σ q ≡ reverse_lie → Is (is_point p.tracks q)
  -- a green names a route that starts at that signal
  pub green : (s r : ℕ) → shown_at σ s ≡ green_for r → (r < length p.routes) × ((route_of p r).start ≡ s)
  -- a lie is normal or reverse
  pub lie : (q : ℕ) → (lie_at σ q ≡ normal_lie) ⊎ (lie_at σ q ≡ reverse_lie)
