-- The bytes of a row, as document 01, "The plan file", lists them: of a track with what the layout makes of them (plan/specs/Kinds.antt, where a facing point
-- forks and a trailing point is legged), of a release, a route and an entry with which list is which.
use Rattle.std.specs.Prelude.{◌≡◌, Bool, true, false, ◌↔◌, List, [], ◌∷◌, ◌++◌, ℕ, length, get_or, drop}
use Rattle.laws.specs.Lists.{joined}
use Rattle.plan.specs.declared.Track.{Track}
use Rattle.plan.specs.Kinds.{Plain, Forks, Legged, Exit, out, leg}
use Rattle.plan.specs.declared.Release.{Release}
use Rattle.plan.specs.Records.{Route, Entry}
use Rattle.plan.specs.File.{track_file, release_file, route_file, entry_file}

-- A lie is normal (false) or reverse (true).
module _ (t : Track) where
  abbrev pub byte : ℕ → ℕ
  byte i = get_or (track_file t) i 0

  pub record TrackRow : Type 0 where
    pub four : length (track_file t) ≡ 4
    -- kind: 0 plain, 1 facing point, 2 trailing point, 3 exit
    pub plain : Plain t ↔ (byte 0 ≡ 0)
    pub facing : Forks t ↔ (byte 0 ≡ 1)
    pub trailing : Legged t ↔ (byte 0 ≡ 2)
    pub exit : Exit t ↔ (byte 0 ≡ 3)
    -- 0 plain: next
    pub plain_next : Plain t → (lie : Bool) → out t lie ≡ byte 1
    -- 1 facing point: normal way out, reverse way out
    pub normal_way : Forks t → out t false ≡ byte 1
    pub reverse_way : Forks t → out t true ≡ byte 2
    -- 2 trailing point: next, normal leg, reverse leg
    pub trailing_next : Legged t → (lie : Bool) → out t lie ≡ byte 1
    pub normal_leg : Legged t → leg t false ≡ byte 2
    pub reverse_leg : Legged t → leg t true ≡ byte 3

-- a list of numbers after its count
abbrev after_count : List ℕ → List ℕ
after_count l = length l ∷ l

-- pairs: track, point
pub record ReleaseRow (q : Release) : Type 0 where
  pub pair : release_file q ≡ q.track ∷ q.point ∷ []

-- the start signal, then path, clear, normal points, reverse points, releases
pub record RouteRow (r : Route) : Type 0 where
  pub start : get_or (route_file r) 0 0 ≡ r.start
  pub lists : drop 1 (route_file r) ≡ after_count r.path ++ (after_count r.clear ++ (after_count r.normal ++ (after_count r.reverse ++ (length r.releases ∷ joined release_file r.releases))))

-- the track, then its clear list
pub record EntryRow (e : Entry) : Type 0 where
  pub track : get_or (entry_file e) 0 0 ≡ e.track
  pub list : drop 1 (entry_file e) ≡ after_count e.clear
