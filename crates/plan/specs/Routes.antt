-- What a route says: its way, which points it lists, and which it gives back where, as tests and as sentences of the same names.
use Rattle.std.specs.Prelude.{ℕ, ◌<◌, ◌≡◌, Bool, cond, ◌&&◌, ◌||◌, ◌⊎◌, List, ◌∷◌, length, get_or, eqb}
use Rattle.laws.specs.Lists.{has, any_of, In}
use Rattle.plan.specs.declared.Release.{Release}
use Rattle.plan.specs.Records.{Plan, home_of, route_of}

-- The way of a route.
module _ (p : Plan) (r : ℕ) where
  -- how many tracks its path has
  abbrev pub path_length : ℕ
  path_length = length (route_of p r).path

  -- its home, then its path
  unfoldable pub way_of : List ℕ
  way_of = home_of p (route_of p r).start ∷ (route_of p r).path

  -- the home at place 0, the path from place 1 on
  unfoldable pub track_at : ℕ → ℕ
  track_at i = get_or way_of i 0

-- Its points, and its releases.

-- what stands for a release that doesn't exist
abbrev pub no_release : Release
no_release = record { track = 0; point = 0 }

-- the listed points are those of the normal and the reverse list; a test of the two lists, which the code that decides has in hand
unfoldable pub listed : List ℕ → List ℕ → ℕ → Bool
listed normal reverse x = has x normal || has x reverse

module _ (p : Plan) (r : ℕ) where
  abbrev pub Listed : ℕ → Type 0
  Listed x = In x (route_of p r).normal ⊎ In x (route_of p r).reverse

  -- the points that it lists normal (false) and reverse (true)
  unfoldable pub points_of : Bool → List ℕ
  points_of lie = cond lie (route_of p r).reverse (route_of p r).normal

  -- its releases, by their number in the list
  unfoldable pub release_of : ℕ → Release
  release_of k = get_or (route_of p r).releases k no_release

  -- it gives x back
  unfoldable pub released : ℕ → Bool
  released x = any_of (λ q. eqb q.point x) (route_of p r).releases

  abbrev pub Released : ℕ → Type 0
  Released x = (k : ℕ) × (k < length (route_of p r).releases) × ((release_of k).point ≡ x)

  -- (v, x) is in its release list: it gives x back when a train arrives on v
  unfoldable pub releases : ℕ → ℕ → Bool
  releases v x = any_of (λ q. eqb q.track v && eqb q.point x) (route_of p r).releases

  abbrev pub Releases : ℕ → ℕ → Type 0
  Releases v x = (k : ℕ) × (k < length (route_of p r).releases) × ((release_of k).track ≡ v) × ((release_of k).point ≡ x)
