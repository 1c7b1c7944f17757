-- How the tracks of a plan lie: what leads where, and where the signals stand, as tests and as sentences of the same names.
use Rattle.std.specs.Prelude.{ℕ, ◌<◌, ◌≡◌, Bool, true, false, not, ◌&&◌, ◌||◌, length, eqb, ltb, Option}
use Rattle.laws.specs.Lists.{has}
use Rattle.laws.specs.Search.{lowest}
use Rattle.plan.specs.Kinds.{exit, out, Exit}
use Rattle.plan.specs.Records.{Plan, track_of, home_of}

module _ (p : Plan) where
  -- a track leads to its next, or to either way out of a facing point; an exit leads nowhere
  unfoldable pub leads : ℕ → ℕ → Bool
  leads u v = not (exit (track_of p u)) && (eqb (out (track_of p u) false) v || eqb (out (track_of p u) true) v)

  abbrev pub Leads : ℕ → ℕ → Type 0
  Leads u v = (Exit (track_of p u) → ⊥) × ((lie : Bool) × (out (track_of p u) lie ≡ v))

  -- a signal stands at the track's end
  unfoldable pub is_home : ℕ → Bool
  is_home u = has u p.signals

  abbrev pub Home : ℕ → Type 0
  Home u = (s : ℕ) × (s < length p.signals) × (home_of p s ≡ u)

  -- the signal s stands at the end of the track u
  unfoldable pub stands_at : ℕ → ℕ → Bool
  stands_at u s = ltb s (length p.signals) && eqb (home_of p s) u

  abbrev pub StandsAt : ℕ → ℕ → Type 0
  StandsAt u s = (s < length p.signals) × (home_of p s ≡ u)

  -- the signal at a track's end
  unfoldable pub signal_at : ℕ → Option ℕ
  signal_at u = lowest (length p.signals) (λ s. eqb (home_of p s) u)
