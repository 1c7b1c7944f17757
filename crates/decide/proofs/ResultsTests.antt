-- Written by .ci/contracts --write: for each function of src/tests.rt, that any two results that its contract allows are the same.
use Rattle.decide.specs.declared.Junction.{Junction}
use Rattle.std.specs.Prelude.{ℕ, Bool, ◌≡◌ as ◌is◌, List, Option, ◌≡◌, length}
use Rattle.laws.specs.Once.{equal_once}
use Rattle.decide.specs.declared.Points.{Points}
use Rattle.laws.specs.Search.{lowest}
use Rattle.plan.specs.Layout.{signal_at}
use Rattle.decide.specs.Lent.{plan, state, normal, reverse}
use Rattle.decide.specs.Along.{first_of, lower}
use Rattle.events.specs.Decide.{has_train, is_reverse, is_held, turns, held_other, derails, stands, with_train, busy_train, held_point, derailed_point, red_at, way_out, runs_through}

pub junction_has_train_once : (self : Junction) (track : ℕ) (r r₂ : Bool)
    → (r ≡ has_train (state self).trains track)
    → (r₂ ≡ has_train (state self).trains track)
    → r is r₂
junction_has_train_once self track r r₂ by_one by_other = equal_once _ _ _ by_one by_other

pub junction_is_reverse_once : (self : Junction) (point : ℕ) (r r₂ : Bool)
    → (r ≡ is_reverse (state self).lies point)
    → (r₂ ≡ is_reverse (state self).lies point)
    → r is r₂
junction_is_reverse_once self point r r₂ by_one by_other = equal_once _ _ _ by_one by_other

pub junction_is_held_once : (self : Junction) (point : ℕ) (r r₂ : Bool)
    → (r ≡ is_held (state self).holds point)
    → (r₂ ≡ is_held (state self).holds point)
    → r is r₂
junction_is_held_once self point r r₂ by_one by_other = equal_once _ _ _ by_one by_other

pub junction_busy_in_once : (self : Junction) (clear : List ℕ) (r r₂ : Option (ℕ × ℕ))
    → (r ≡ with_train (state self).trains (first_of (has_train (state self).trains) clear))
    → (r₂ ≡ with_train (state self).trains (first_of (has_train (state self).trains) clear))
    → r is r₂
junction_busy_in_once self clear r r₂ by_one by_other = equal_once _ _ _ by_one by_other

pub junction_busy_train_once : (self : Junction) (clear : List ℕ) (r r₂ : Option (ℕ × ℕ))
    → (r ≡ busy_train (length (plan self).tracks) clear (state self).trains)
    → (r₂ ≡ busy_train (length (plan self).tracks) clear (state self).trains)
    → r is r₂
junction_busy_train_once self clear r r₂ by_one by_other = equal_once _ _ _ by_one by_other

pub junction_turns_once : (self : Junction) (points : Points) (point : ℕ) (r r₂ : Bool)
    → (r ≡ turns (normal points) (reverse points) (state self).lies point)
    → (r₂ ≡ turns (normal points) (reverse points) (state self).lies point)
    → r is r₂
junction_turns_once self points point r r₂ by_one by_other = equal_once _ _ _ by_one by_other

pub junction_held_other_once : (self : Junction) (points : Points) (point : ℕ) (r r₂ : Bool)
    → (r ≡ held_other (normal points) (reverse points) (state self).lies (state self).holds point)
    → (r₂ ≡ held_other (normal points) (reverse points) (state self).lies (state self).holds point)
    → r is r₂
junction_held_other_once self points point r r₂ by_one by_other = equal_once _ _ _ by_one by_other

pub junction_held_in_once : (self : Junction) (points : Points) (list : List ℕ) (r r₂ : Option ℕ)
    → (r ≡ first_of (held_other (normal points) (reverse points) (state self).lies (state self).holds) list)
    → (r₂ ≡ first_of (held_other (normal points) (reverse points) (state self).lies (state self).holds) list)
    → r is r₂
junction_held_in_once self points list r r₂ by_one by_other = equal_once _ _ _ by_one by_other

pub junction_held_point_once : (self : Junction) (points : Points) (r r₂ : Option ℕ)
    → (r ≡ held_point (length (plan self).tracks) (normal points) (reverse points) (state self).lies (state self).holds)
    → (r₂ ≡ held_point (length (plan self).tracks) (normal points) (reverse points) (state self).lies (state self).holds)
    → r is r₂
junction_held_point_once self points r r₂ by_one by_other = equal_once _ _ _ by_one by_other

pub junction_derails_once : (self : Junction) (points : Points) (point : ℕ) (r r₂ : Bool)
    → (r ≡ derails (normal points) (reverse points) (state self).trains (state self).lies point)
    → (r₂ ≡ derails (normal points) (reverse points) (state self).trains (state self).lies point)
    → r is r₂
junction_derails_once self points point r r₂ by_one by_other = equal_once _ _ _ by_one by_other

pub junction_derailed_in_once : (self : Junction) (points : Points) (list : List ℕ) (r r₂ : Option ℕ)
    → (r ≡ first_of (derails (normal points) (reverse points) (state self).trains (state self).lies) list)
    → (r₂ ≡ first_of (derails (normal points) (reverse points) (state self).trains (state self).lies) list)
    → r is r₂
junction_derailed_in_once self points list r r₂ by_one by_other = equal_once _ _ _ by_one by_other

pub junction_derailed_point_once : (self : Junction) (points : Points) (r r₂ : Option ℕ)
    → (r ≡ derailed_point (length (plan self).tracks) (normal points) (reverse points) (state self).trains (state self).lies)
    → (r₂ ≡ derailed_point (length (plan self).tracks) (normal points) (reverse points) (state self).trains (state self).lies)
    → r is r₂
junction_derailed_point_once self points r r₂ by_one by_other = equal_once _ _ _ by_one by_other

pub junction_front_of_once : (self : Junction) (train : ℕ) (r r₂ : Option ℕ)
    → (r ≡ lowest (length (plan self).tracks) (stands (state self).trains train))
    → (r₂ ≡ lowest (length (plan self).tracks) (stands (state self).trains train))
    → r is r₂
junction_front_of_once self train r r₂ by_one by_other = equal_once _ _ _ by_one by_other

pub junction_signal_at_once : (self : Junction) (track : ℕ) (r r₂ : Option ℕ)
    → (r ≡ signal_at (plan self) track)
    → (r₂ ≡ signal_at (plan self) track)
    → r is r₂
junction_signal_at_once self track r r₂ by_one by_other = equal_once _ _ _ by_one by_other

pub junction_red_at_once : (self : Junction) (track : ℕ) (r r₂ : Option ℕ)
    → (r ≡ red_at (plan self) (state self).signals track)
    → (r₂ ≡ red_at (plan self) (state self).signals track)
    → r is r₂
junction_red_at_once self track r r₂ by_one by_other = equal_once _ _ _ by_one by_other

pub junction_next_track_once : (self : Junction) (track r r₂ : ℕ)
    → (r ≡ way_out (plan self) (state self).lies track)
    → (r₂ ≡ way_out (plan self) (state self).lies track)
    → r is r₂
junction_next_track_once self track r r₂ by_one by_other = equal_once _ _ _ by_one by_other

pub junction_runs_through_once : (self : Junction) (from to : ℕ) (r r₂ : Bool)
    → (r ≡ runs_through (plan self) (state self).lies from to)
    → (r₂ ≡ runs_through (plan self) (state self).lies from to)
    → r is r₂
junction_runs_through_once self from to r r₂ by_one by_other = equal_once _ _ _ by_one by_other

pub lower_once : (one other r r₂ : Option ℕ)
    → (r ≡ lower one other)
    → (r₂ ≡ lower one other)
    → r is r₂
lower_once one other r r₂ by_one by_other = equal_once _ _ _ by_one by_other
