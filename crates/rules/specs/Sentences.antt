-- The plan rules as document 01 says them, with "for all", "there is" and equations; proofs/Meaning.antt shows that the tests say just this.
use Rattle.std.specs.Prelude.{ℕ, suc, ◌<◌, ◌≤◌, ◌≡◌, Bool, true, false, not, ◌≢◌, ◌⊎◌, ◌↔◌, length}
use Rattle.laws.specs.Lists.{In}
use Rattle.plan.specs.Kinds.{out, leg, Plain, Exit, Forks, Legged}
use Rattle.plan.specs.Records.{Plan, track_of, home_of, route_of, entry_of}
use Rattle.plan.specs.Layout.{Leads, Home}
use Rattle.plan.specs.Routes.{points_of, release_of, Listed, Released, path_length, track_at}

-- 1 (row: track). The two ways out of a facing point differ; so do the two legs of a trailing point.
pub record WaysDiffer (p : Plan) (u : ℕ) : Type 0 where
  pub ways : Forks (track_of p u) → out (track_of p u) false ≢ out (track_of p u) true
  pub legs : Legged (track_of p u) → leg (track_of p u) false ≢ leg (track_of p u) true

-- 2 (track). Each leg of a trailing point leads to it.
abbrev pub LegsLead : Plan → ℕ → Type 0
LegsLead p v = Legged (track_of p v) → (lie : Bool) → Leads p (leg (track_of p v) lie) v

-- 3 (track led to). No two tracks lead to the same track, except the two legs of a trailing point; nothing but its legs leads to a trailing
-- point.
pub record LedOnce (p : Plan) (v : ℕ) : Type 0 where
  pub two : (u w : ℕ) → Leads p u v → Leads p w v → u ≢ w → Legged (track_of p v) × ((lie : Bool) × (u ≡ leg (track_of p v) lie) × (w ≡ leg (track_of p v) (not lie)))
  pub legs : Legged (track_of p v) → (u : ℕ) → Leads p u v → (lie : Bool) × (u ≡ leg (track_of p v) lie)

-- 4 (signal). A home track is plain.
abbrev pub HomePlain : Plan → ℕ → Type 0
HomePlain p s = Plain (track_of p (home_of p s))

-- 5 (entry). An entry track is plain, is some signal's home, and nothing leads to it.
pub record EntryPlaced (p : Plan) (e : ℕ) : Type 0 where
  pub is_plain : Plain (track_of p (entry_of p e).track)
  pub home : Home p (entry_of p e).track
  pub nothing : (u : ℕ) → Leads p u (entry_of p e).track → ⊥

-- 6 (route). The home leads to the first path track, each path track to the following one; home and path tracks are all different.
pub record PathLinked (p : Plan) (r : ℕ) : Type 0 where
  pub lead : (i : ℕ) → i < path_length p r → Leads p (track_at p r i) (track_at p r (suc i))
  pub apart : (i j : ℕ) → i < j → j ≤ path_length p r → track_at p r i ≢ track_at p r j

-- 7 (route). No path track but the last is a home; the last is a home or an exit.
pub record PathEnds (p : Plan) (r : ℕ) : Type 0 where
  pub middle : (i : ℕ) → suc i < path_length p r → Home p (track_at p r (suc i)) → ⊥
  pub last : Home p (track_at p r (path_length p r)) ⊎ Exit (track_of p (track_at p r (path_length p r)))

-- 8 (route). The clear list holds the whole path.
abbrev pub PathClear : Plan → ℕ → Type 0
PathClear p r = (u : ℕ) → In u (route_of p r).path → In u (route_of p r).clear

-- 9 (route). Each facing point on the path is listed normal or reverse by the way out taken, each trailing point by the leg it is entered from;
-- no point is in both lists.
pub record PointsListed (p : Plan) (r : ℕ) : Type 0 where
  pub ways : (i : ℕ) → i < path_length p r → Forks (track_of p (track_at p r (suc i)))
      → (lie : Bool) × In (track_at p r (suc i)) (points_of p r lie) × (suc i < path_length p r) × (out (track_of p (track_at p r (suc i))) lie ≡ track_at p r (suc (suc i)))
  pub legs : (i : ℕ) → i < path_length p r → Legged (track_of p (track_at p r (suc i)))
      → (lie : Bool) × In (track_at p r (suc i)) (points_of p r lie) × (leg (track_of p (track_at p r (suc i))) lie ≡ track_at p r i)
  pub apart : (x : ℕ) → In x (points_of p r false) → In x (points_of p r true) → ⊥

-- 10 (route). Every listed point is in the clear list.
abbrev pub PointsClear : Plan → ℕ → Type 0
PointsClear p r = (x : ℕ) → Listed p r x → In x (route_of p r).clear

-- 11 (route). The release list's points are exactly the listed points; each release track is on the path, and later than its point where the
-- point is on the path.
pub record ReleasesFit (p : Plan) (r : ℕ) : Type 0 where
  pub points : (x : ℕ) → Released p r x ↔ Listed p r x
  pub on_path : (k : ℕ) → k < length (route_of p r).releases → In (release_of p r k).track (route_of p r).path
  pub after : (k i j : ℕ) → k < length (route_of p r).releases → i < path_length p r → j < path_length p r
      → track_at p r (suc i) ≡ (release_of p r k).point → track_at p r (suc j) ≡ (release_of p r k).track → i < j

-- 12 (entry). The clear list holds the entry track.
abbrev pub EntryClear : Plan → ℕ → Type 0
EntryClear p e = In (entry_of p e).track (entry_of p e).clear
