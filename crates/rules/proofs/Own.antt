-- A row's rules are its own: they are those of a plan that has the same tracks and signals and this one route, or entry, alone.
use mathlib.Core.Path.{◌≡◌, refl, sym, ap, ◌∙◌}
use mathlib.Core.Bool.{Bool}
use mathlib.Core.List.{List, [], ◌∷◌}
use Prim.Native.Nat.{ℕ}
use Rattle.plan.specs.declared.Track.{Track}
use Rattle.plan.specs.Kinds.{plain, exit, forks, legged, out, leg}
use Rattle.plan.specs.Records.{Route, Entry, Plan, track_of, home_of, route_of, entry_of}
use Rattle.plan.specs.Layout.{leads, is_home}
use Rattle.plan.specs.Routes.{points_of, listed, released, way_of, track_at}
use Rattle.rules.specs.Rules.{wants, wants_out, listed_out, wants_in, listed_in, none_leads, entry_placed, linked_at, path_linked, no_home_at, ends, path_ends, path_clear, facing_listed, trailing_listed, points_listed, points_clear, release_fits, releases_fit, entry_clear}

alone : List Track → List ℕ → List Route → List Entry → Plan
alone tracks signals routes entries = record { tracks = tracks; signals = signals; routes = routes; entries = entries }

module _ (p : Plan) (r : ℕ) where
  with_route : Plan
  with_route = alone p.tracks p.signals (route_of p r ∷ []) []

  linked : path_linked p r ≡ path_linked with_route 0
  unfolding alone with_route path_linked linked_at track_at way_of leads exit out forks track_of home_of route_of
  linked = refl

  ended : path_ends p r ≡ path_ends with_route 0
  unfolding alone with_route path_ends no_home_at ends track_at way_of exit is_home track_of home_of route_of
  ended = refl

  cleared : path_clear p r ≡ path_clear with_route 0
  unfolding alone with_route path_clear route_of
  cleared = refl

  pointed : points_listed p r ≡ points_listed with_route 0
  unfolding alone with_route points_listed facing_listed trailing_listed listed_out wants_out listed_in wants_in wants points_of track_at way_of forks legged out leg track_of home_of route_of
  pointed = refl

  points_cleared : points_clear p r ≡ points_clear with_route 0
  unfolding alone with_route points_clear points_of route_of
  points_cleared = refl

  given : releases_fit p r ≡ releases_fit with_route 0
  unfolding alone with_route releases_fit release_fits listed wants released points_of route_of
  given = refl

module _ (p : Plan) (e : ℕ) where
  with_entry : Plan
  with_entry = alone p.tracks p.signals [] (entry_of p e ∷ [])

  placed : entry_placed p e ≡ entry_placed with_entry 0
  unfolding alone with_entry entry_placed none_leads leads plain is_home exit out forks track_of entry_of
  placed = refl

  entry_cleared : entry_clear p e ≡ entry_clear with_entry 0
  unfolding alone with_entry entry_clear entry_of
  entry_cleared = refl

module _ (p q : Plan) (t : p.tracks ≡ q.tracks) (s : p.signals ≡ q.signals) where
  -- two plans that agree on tracks, signals and route r agree on rules 6 to 11 at r
  module _ (r : ℕ) (e : route_of p r ≡ route_of q r) where
    on_route : (f : Plan → ℕ → Bool) → (f p r ≡ f (with_route p r) 0) → (f q r ≡ f (with_route q r) 0) → f p r ≡ f q r
    unfolding with_route
    on_route f a b = a ∙ ap (λ (x : Plan). f x 0) same ∙ sym b
      where
        same : with_route p r ≡ with_route q r
        same = cc

    pub route_own : (path_linked p r ≡ path_linked q r) × (path_ends p r ≡ path_ends q r) × (path_clear p r ≡ path_clear q r)
        × (points_listed p r ≡ points_listed q r) × (points_clear p r ≡ points_clear q r) × (releases_fit p r ≡ releases_fit q r)
    route_own = (
      on_route path_linked (linked p r) (linked q r),
      on_route path_ends (ended p r) (ended q r),
      on_route path_clear (cleared p r) (cleared q r),
      on_route points_listed (pointed p r) (pointed q r),
      on_route points_clear (points_cleared p r) (points_cleared q r),
      on_route releases_fit (given p r) (given q r),
    )

  -- two plans that agree on tracks, signals and entry e agree on rules 5 and 12 at e
  pub entry_own : (e : ℕ) → entry_of p e ≡ entry_of q e → (entry_placed p e ≡ entry_placed q e) × (entry_clear p e ≡ entry_clear q e)
  unfolding with_entry
  entry_own e w = (placed p e ∙ ap (λ (x : Plan). entry_placed x 0) same ∙ sym (placed q e), entry_cleared p e ∙ ap (λ (x : Plan). entry_clear x 0) same ∙ sym (entry_cleared q e))
    where
      same : with_entry p e ≡ with_entry q e
      same = cc
