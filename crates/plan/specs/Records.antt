-- A plan, as document 01 describes it. A point is named by its track. `Track` and `Release` are the code's own structs (src/lib.rt).
use Rattle.std.specs.Prelude.{ℕ, List, [], get_or}
use Rattle.plan.specs.declared.Track.{Track}
use Rattle.plan.specs.declared.Release.{Release}
use Rattle.plan.specs.Kinds.{no_track}

-- the start signal, the path in travel order, the tracks to be found clear, the points to lie normal and reverse, the releases
pub record Route : Type 0 where
  pub start : ℕ
  pub path : List ℕ
  pub clear : List ℕ
  pub normal : List ℕ
  pub reverse : List ℕ
  pub releases : List Release

pub record Entry : Type 0 where
  pub track : ℕ
  pub clear : List ℕ

-- a signal is its home track, at whose end it stands
pub record Plan : Type 0 where
  pub tracks : List Track
  pub signals : List ℕ
  pub routes : List Route
  pub entries : List Entry

-- what stands for a route or an entry that doesn't exist

abbrev pub no_route : Route
no_route = record { start = 0; path = []; clear = []; normal = []; reverse = []; releases = [] }

abbrev pub no_entry : Entry
no_entry = record { track = 0; clear = [] }

-- a track, a signal's home, a route, an entry of a plan, by its number

unfoldable pub track_of : Plan → ℕ → Track
track_of p u = get_or p.tracks u no_track

unfoldable pub home_of : Plan → ℕ → ℕ
home_of p s = get_or p.signals s 0

unfoldable pub route_of : Plan → ℕ → Route
route_of p r = get_or p.routes r no_route

unfoldable pub entry_of : Plan → ℕ → Entry
entry_of p e = get_or p.entries e no_entry
