-- What a plan that can be read names is there, and so is what a deed names.
use mathlib.Core.Path.{◌≡◌}
use mathlib.Core.List.{List, [], ◌∷◌}
use Prim.Native.Nat.{ℕ, ◌<◌}
use native.Mathlib.Omega.{arith}
use lib.ListN.{length}
use Rattle.laws.specs.Tests.{Is}
use Rattle.laws.specs.Lists.{All, all_at, all_map, joined}
use Rattle.plan.specs.declared.Release.{Release}
use Rattle.plan.specs.Limits.{most_tracks, most_signals}
use Rattle.plan.specs.Kinds.{is_point}
use Rattle.plan.specs.Records.{Plan, no_route, route_of}
use Rattle.plan.specs.File.{release_file, ReadableRelease, ReadableRoute, Readable}
use Rattle.plan.proofs.Says.{point_below}
use Rattle.events.specs.declared.Deed.{Deed}
use Rattle.events.specs.declared.Deed.TheVariants.{Granted, Cancelled, Entered, Moved, Left}
use Rattle.events.specs.After.{Names}
use Rattle.act.specs.Cells.{Ready}

-- A route that there is.
module _ (p : Plan) (readable : Readable p) (r : ℕ) (there : r < length p.routes) where
  route : ReadableRoute p.tracks (length p.signals) (route_of p r)
  unfolding route_of
  route = all_at (ReadableRoute p.tracks (length p.signals)) p.routes r no_route readable.routes.each there

  start_below : (route_of p r).start < most_signals
  start_below = omega (arith, route.start, readable.signals.few)

  -- its points, where there is a cell for each track
  module _ (cells : List ℕ) (long : length cells ≡ most_tracks) where
    below : (q : ℕ) → Is (is_point p.tracks q) → q < length cells
    below q i = omega (arith, point_below p.tracks q i, readable.tracks.few)

    normal_below : All (λ q. q < length cells) (route_of p r).normal
    normal_below = all_map below (route_of p r).normal route.normal.each

    reverse_below : All (λ q. q < length cells) (route_of p r).reverse
    reverse_below = all_map below (route_of p r).reverse route.reverse.each

    pub releases_below : {l : List ℕ} → l ≡ joined release_file (route_of p r).releases → All (λ q. q < length cells) l
    unfolding joined release_file All
    releases_below e = rw e (go (route_of p r).releases route.releases.each)
      where
        go : (l : List Release) → All (ReadableRelease p.tracks) l → All (λ q. q < length cells) (joined release_file l)
        go [] w = tt
        go (a ∷ l) w = (omega (arith, w.0.track, readable.tracks.few), (below a.point w.0.point, go l w.1))

-- The route of a deed.
module _ (p : Plan) (a : Deed) (ready : Ready p a) where
  pub granted_there : {r : ℕ} → a ≡ Granted r → r < length p.routes
  unfolding Names
  granted_there e = rw e at ready.named

  cancelled_there : {r : ℕ} → a ≡ Cancelled r → r < length p.routes
  unfolding Names
  cancelled_there e = rw e at ready.named

  pub granted_start : {r s : ℕ} → a ≡ Granted r → s ≡ (route_of p r).start → s < most_signals
  granted_start {r} e w = rw w (start_below p ready.readable r (granted_there e))

  pub cancelled_start : {r s : ℕ} → a ≡ Cancelled r → s ≡ (route_of p r).start → s < most_signals
  cancelled_start {r} e w = rw w (start_below p ready.readable r (cancelled_there e))

  module _ {r : ℕ} (e : a ≡ Granted r) (cells : List ℕ) (long : length cells ≡ most_tracks) where
    pub granted_normal : {l : List ℕ} → l ≡ (route_of p r).normal → All (λ q. q < length cells) l
    granted_normal w = rw w (normal_below p ready.readable r (granted_there e) cells long)

    pub granted_reverse : {l : List ℕ} → l ≡ (route_of p r).reverse → All (λ q. q < length cells) l
    granted_reverse w = rw w (reverse_below p ready.readable r (granted_there e) cells long)

-- The tracks of a deed.
module _ (p : Plan) (a : Deed) (ready : Ready p a) (trains : List ℕ) (long : length trains ≡ most_tracks) where
  pub entered_below : {train u : ℕ} → a ≡ Entered train u → u < length trains
  unfolding Names
  entered_below e = let h = rw e at ready.named in omega (arith, h, ready.readable.tracks.few, long)

  pub to_below : {train u v : ℕ} → a ≡ Moved train u v → v < length trains
  unfolding Names
  to_below e = let h = rw e at ready.named in omega (arith, h.1, ready.readable.tracks.few, long)

  pub from_below : {train u v : ℕ} → a ≡ Moved train u v → u < length trains
  unfolding Names
  from_below e = let h = rw e at ready.named in omega (arith, h.0, ready.readable.tracks.few, long)

  pub left_below : {train u : ℕ} → a ≡ Left train u → u < length trains
  unfolding Names
  left_below e = let h = rw e at ready.named in omega (arith, h, ready.readable.tracks.few, long)
