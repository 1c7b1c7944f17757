-- The bench plan reads as the plan that one would write by hand, and so do a plan that forks and plans whose lists are empty; a byte that its kind
-- does not use is 0, or a bad number. The slips stand in the one table of crates/demands.
use mathlib.Core.Path.{◌≡◌, refl}
use Prim.Native.Nat.{ℕ}
use mathlib.Core.List.{List, [], ◌∷◌, ◌++◌, map}
use Rattle.plan.specs.Kinds.{plain_kind, facing_kind, trailing_kind, exit_kind, forks, legged, point, is_point, uses, limit_of}
use Rattle.plan.specs.Records.{Plan}
use Rattle.reading.specs.declared.Form.TheVariants.{BadNumber}
use Rattle.reading.specs.Reading.{Got, form, got, and_then, done, number, count, many, counted, path_list, rising_list, point_list, track, track_section, signal_section, release, release_list, route, route_section, entry, entry_section, sections, parse}

-- byte by byte
bench : List ℕ
bench =
    (4 ∷ 0 ∷ 2 ∷ 0 ∷ 0 ∷ 0 ∷ 2 ∷ 0 ∷ 0 ∷ 2 ∷ 3 ∷ 0 ∷ 1 ∷ 3 ∷ 0 ∷ 0 ∷ 0 ∷ [])
    ++ ((2 ∷ 0 ∷ 1 ∷ [])
    ++ ((2 ∷ 0 ∷ 2 ∷ 2 ∷ 3 ∷ 2 ∷ 2 ∷ 3 ∷ 1 ∷ 2 ∷ 0 ∷ 1 ∷ 3 ∷ 2 ∷ 1 ∷ 2 ∷ 2 ∷ 3 ∷ 2 ∷ 2 ∷ 3 ∷ 0 ∷ 1 ∷ 2 ∷ 1 ∷ 3 ∷ 2 ∷ []) ++ (2 ∷ 0 ∷ 1 ∷ 0 ∷ 1 ∷ 1 ∷ 1 ∷ [])))

-- as one would write it by hand: two lines merge
bench_plan : Plan
bench_plan = record {
  tracks = record { kind = plain_kind; first = 2; second = 0; third = 0 }
      ∷ record { kind = plain_kind; first = 2; second = 0; third = 0 }
      ∷ record { kind = trailing_kind; first = 3; second = 0; third = 1 }
      ∷ record { kind = exit_kind; first = 0; second = 0; third = 0 }
      ∷ [];
  signals = 0 ∷ 1 ∷ [];
  routes = record { start = 0; path = 2 ∷ 3 ∷ []; clear = 2 ∷ 3 ∷ []; normal = 2 ∷ []; reverse = []; releases = record { track = 3; point = 2 } ∷ [] }
      ∷ record { start = 1; path = 2 ∷ 3 ∷ []; clear = 2 ∷ 3 ∷ []; normal = []; reverse = 2 ∷ []; releases = record { track = 3; point = 2 } ∷ [] }
      ∷ [];
  entries = record { track = 0; clear = 0 ∷ [] } ∷ record { track = 1; clear = 1 ∷ [] } ∷ [];
}

-- a file, and what reading it gives
pub record Row : Type 0 where
  pub file : List ℕ
  pub gives : Got Plan

row : List ℕ → Got Plan → Row
row file gives = record { file = file; gives = gives }

-- one exit, and no signals, routes or entries; and a route and an entry whose lists are empty where they may be: both read
lone_plan : Plan
lone_plan = record { tracks = record { kind = exit_kind; first = 0; second = 0; third = 0 } ∷ []; signals = []; routes = []; entries = [] }

bare_plan : Plan
bare_plan = record {
  tracks = record { kind = plain_kind; first = 0; second = 0; third = 0 } ∷ [];
  signals = 0 ∷ [];
  routes = record { start = 0; path = 0 ∷ []; clear = []; normal = []; reverse = []; releases = [] } ∷ [];
  entries = record { track = 0; clear = [] } ∷ [];
}

-- a line forks: the point lies normal for the one route
fork_plan : Plan
fork_plan = record {
  tracks = record { kind = plain_kind; first = 1; second = 0; third = 0 }
      ∷ record { kind = facing_kind; first = 2; second = 3; third = 0 }
      ∷ record { kind = exit_kind; first = 0; second = 0; third = 0 }
      ∷ record { kind = exit_kind; first = 0; second = 0; third = 0 }
      ∷ [];
  signals = 0 ∷ [];
  routes = record { start = 0; path = 1 ∷ 2 ∷ []; clear = 1 ∷ []; normal = 1 ∷ []; reverse = []; releases = [] } ∷ [];
  entries = [];
}

table : List Row
table =
    row bench (got bench_plan 54 [])
    ∷ row (1 ∷ 3 ∷ 0 ∷ 0 ∷ 0 ∷ 0 ∷ 0 ∷ 0 ∷ []) (got lone_plan 8 [])
    ∷ row (1 ∷ 0 ∷ 0 ∷ 0 ∷ 0 ∷ 1 ∷ 0 ∷ 1 ∷ 0 ∷ 1 ∷ 0 ∷ 0 ∷ 0 ∷ 0 ∷ 0 ∷ 1 ∷ 0 ∷ 0 ∷ []) (got bare_plan 18 [])
    ∷ row ((4 ∷ 0 ∷ 1 ∷ 0 ∷ 0 ∷ 1 ∷ 2 ∷ 3 ∷ 0 ∷ 3 ∷ 0 ∷ 0 ∷ 0 ∷ 3 ∷ 0 ∷ 0 ∷ 0 ∷ []) ++ ((1 ∷ 0 ∷ []) ++ (1 ∷ 0 ∷ 2 ∷ 1 ∷ 2 ∷ 1 ∷ 1 ∷ 1 ∷ 1 ∷ 0 ∷ 0 ∷ 0 ∷ []))) (got fork_plan 31 [])
    ∷ row (4 ∷ 0 ∷ 1 ∷ 1 ∷ []) (form (BadNumber 3))
    ∷ row (4 ∷ 1 ∷ 2 ∷ 3 ∷ 1 ∷ []) (form (BadNumber 4))
    ∷ row (4 ∷ 3 ∷ 1 ∷ []) (form (BadNumber 2))
    ∷ []

by_hand : map (λ r. parse r.file) table ≡ map (λ r. r.gives) table
unfolding bench bench_plan lone_plan bare_plan fork_plan row table
    parse sections track_section signal_section route_section entry_section track release release_list route entry path_list rising_list point_list
    counted many number count and_then done
    is_point point forks legged uses limit_of
by_hand = refl
