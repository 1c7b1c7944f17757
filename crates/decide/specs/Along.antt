-- What a walk along a list finds: the first for which a test says yes. On a list that rises it is the lowest.
use Rattle.std.specs.Prelude.{Bool, cond, List, [], ◌∷◌, ℕ, ◌<◌, ltb, None, Option, Some}
use Rattle.laws.specs.Lists.{All}
use Rattle.plan.specs.File.{Rises}

-- the first number of a list for which a test says yes: of an empty list there is none
unfoldable pub first_of : (ℕ → Bool) → List ℕ → Option ℕ
first_of f [] = None
first_of f (x ∷ l) = cond (f x) (Some x) (first_of f l)

-- the lower of what two walks find
unfoldable pub lower : Option ℕ → Option ℕ → Option ℕ
lower None found = found
lower (Some x) None = Some x
lower (Some x) (Some y) = cond (ltb y x) (Some y) (Some x)

-- a list of tracks as a plan that can be read has it: its numbers are tracks, and each but the first is above its forerunner
pub record RisingTracks (tracks : ℕ) (l : List ℕ) : Type 0 where
  pub each : All (λ u. u < tracks) l
  pub rises : Rises l
