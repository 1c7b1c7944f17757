-- What acting does to the cells of one array, walk by walk, and when it may be asked for.
use Rattle.std.specs.Prelude.{cond, List, [], ◌∷◌, ℕ, get_or, eqb}
use Rattle.std.specs.Coded.{×_prop, Unit-prop, le_prop}
use mathlib.Core.Bool.{Bool-set}
use Rattle.laws.specs.Lists.{All, has}
use Rattle.laws.specs.Sets.{excluding}
use Rattle.plan.specs.Records.{Plan}
use Rattle.plan.specs.File.{Readable}
use Rattle.state.specs.Holds.{adding}
use Rattle.state.specs.State.{normal_lie}
use Rattle.events.specs.declared.Deed.{Deed}
use Rattle.events.specs.declared.Deed.TheVariants.{Granted, Cancelled, Entered, Moved, Left}
use Rattle.events.specs.After.{Names}

-- every point of a list is turned
unfoldable pub turned : List ℕ → ℕ → List ℕ → ℕ → ℕ
turned list lie lies q = cond (has q list) lie (get_or lies q normal_lie)

-- every point of a list is held by the route
unfoldable pub held : List ℕ → ℕ → List ℕ → ℕ → ℕ
held list route holds q = cond (has q list) (adding (get_or holds q 0) route) (get_or holds q 0)

-- the points that releases name for a track; they stand as the file has them, track, point, track, point ..
unfoldable pub released : ℕ → List ℕ → List ℕ
released v [] = []
released v (track ∷ []) = []
released v (track ∷ (point ∷ rest)) = cond (eqb track v) (point ∷ released v rest) (released v rest)

-- the route's hold of every point of a list is dropped
unfoldable pub freed : List ℕ → ℕ → List ℕ → ℕ → ℕ
freed list route holds q = cond (has q list) (excluding (get_or holds q 0) route) (get_or holds q 0)

-- The plan can be read and has what the deed names.
pub record Ready (p : Plan) (deed : Deed) : Type 0 where
  pub readable : Readable p
  pub named : Names p deed

-- There is one way at most in which a deed is ready.
module _ {A : Type 0} {ok : A → Type 0} (one : (a : A) → IsProp (ok a)) where
  all_prop : (l : List A) → IsProp (All ok l)
  unfolding All
  all_prop [] = Unit-prop
  all_prop (a ∷ l) = ×_prop (one a) (all_prop l)

names_prop : (p : Plan) (deed : Deed) → IsProp (Names p deed)
unfolding Names
names_prop p (Granted r) = le_prop
names_prop p (Cancelled r) = le_prop
names_prop p (Entered train u) = le_prop
names_prop p (Moved train u v) = ×_prop le_prop le_prop
names_prop p (Left train u) = le_prop

pub ready_prop : (p : Plan) (deed : Deed) → IsProp (Ready p deed)
ready_prop p deed = hlevel (all_prop, names_prop, le_prop, Bool-set)
