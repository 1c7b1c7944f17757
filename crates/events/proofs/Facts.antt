-- What events ask of a plan, of any plan that can be read: everything that a route, an entry or a track names is there.
use mathlib.Core.Path.{◌≡◌, refl}
use mathlib.Core.Bool.{Bool}
use mathlib.Core.Logic.{inl, inr}
use mathlib.Core.List.{List, [], ◌∷◌}
use Prim.Native.Nat.{ℕ, zero, suc, ◌+◌, ◌<◌, ◌≤◌, ◌-◌}
use native.Mathlib.Omega.{arith}
use lib.ListN.{length, get_or}
use Rattle.laws.specs.Tests.{Is, below?}
use Rattle.laws.specs.Lists.{All, all_at, In}
use Rattle.plan.specs.Limits.{most_tracks, most_signals, most_routes}
use Rattle.plan.specs.Kinds.{out, Exit, no_track, is_point}
use Rattle.plan.specs.Records.{Plan, no_route, no_entry, track_of, home_of, route_of, entry_of}
use Rattle.plan.specs.Layout.{StandsAt}
use Rattle.plan.specs.Routes.{Listed}
use Rattle.plan.specs.File.{Rises, ReadableTrack, ReadableRoute, ReadableEntry, Readable}
use Rattle.plan.proofs.Says.{out_names, point_below}

-- past the end of a list stands what stands for nothing
pub get_or_none : {A : Type 0} (l : List A) (i : ℕ) (d : A) → length l ≤ i → get_or l i d ≡ d
get_or_none [] i d h = refl
get_or_none (a ∷ l) zero d h = absurd (omega arith)
get_or_none (a ∷ l) (suc i) d h = get_or_none l i d (omega arith)

-- what is so of each of a list is so of each that the list has
pub each_in : (ok : ℕ → Type 0) (l : List ℕ) → All ok l → (x : ℕ) → In x l → ok x
each_in ok l w x m = rw (← m.2) (all_at ok l m.0 0 w m.1)

-- a list that rises rises over any distance
rises_far : (l : List ℕ) → Rises l → (d i : ℕ) → i + suc d < length l → get_or l i 0 < get_or l (i + suc d) 0
rises_far l h zero i k = let e : i + 1 ≡ i + suc zero = omega arith in rw (← e) (h i (omega arith))
rises_far l h (suc d) i k =
    let a = rises_far l h d i (omega arith) in
    let b = h (i + suc d) (omega arith) in
    let e : i + suc d + 1 ≡ i + suc (suc d) = omega arith in
    let c : get_or l (i + suc d) 0 < get_or l (i + suc (suc d)) 0 = rw (← e) b in
    omega arith

pub rises_lt : (l : List ℕ) → Rises l → (i j : ℕ) → i < j → j < length l → get_or l i 0 < get_or l j 0
rises_lt l h i j k b = let e : i + suc (j - (i + 1)) ≡ j = omega arith in rw (← e) (rises_far l h (j - (i + 1)) i (omega arith))

module _ (p : Plan) (R : Readable p) where
  pub few_tracks_lem : length p.tracks ≤ most_tracks
  few_tracks_lem = R.tracks.few

  pub few_signals : length p.signals ≤ most_signals
  few_signals = R.signals.few

  pub few_routes : length p.routes ≤ most_routes
  few_routes = R.routes.few

  pub route_read : (r : ℕ) → r < length p.routes → ReadableRoute p.tracks (length p.signals) (route_of p r)
  unfolding route_of
  route_read r h = all_at (ReadableRoute p.tracks (length p.signals)) p.routes r no_route R.routes.each h

  pub entry_read : (e : ℕ) → e < length p.entries → ReadableEntry (length p.tracks) (entry_of p e)
  unfolding entry_of
  entry_read e h = all_at (ReadableEntry (length p.tracks)) p.entries e no_entry R.entries.each h

  track_read : (u : ℕ) → u < length p.tracks → ReadableTrack (length p.tracks) (track_of p u)
  unfolding track_of
  track_read u h = all_at (ReadableTrack (length p.tracks)) p.tracks u no_track R.tracks.each h

  -- a home is a track
  pub home_below : (s : ℕ) → s < length p.signals → home_of p s < length p.tracks
  unfolding home_of
  home_below s h = all_at (λ u. u < length p.tracks) p.signals s 0 R.signals.each h

  -- a route's start is a signal; its clear tracks are tracks, its listed points are points
  pub start_below : (r : ℕ) → r < length p.routes → (route_of p r).start < length p.signals
  start_below r h = (route_read r h).start

  pub clear_below : (r : ℕ) → r < length p.routes → (u : ℕ) → In u (route_of p r).clear → u < length p.tracks
  clear_below r h = each_in (λ u. u < length p.tracks) (route_of p r).clear (route_read r h).clear.each

  pub listed_point : (r : ℕ) → r < length p.routes → (q : ℕ) → Listed p r q → Is (is_point p.tracks q)
  listed_point r h q (inl m) = each_in (λ q. Is (is_point p.tracks q)) (route_of p r).normal (route_read r h).normal.each q m
  listed_point r h q (inr m) = each_in (λ q. Is (is_point p.tracks q)) (route_of p r).reverse (route_read r h).reverse.each q m

  pub listed_below : (r : ℕ) → r < length p.routes → (q : ℕ) → Listed p r q → q < length p.tracks
  listed_below r h q m = point_below p.tracks q (listed_point r h q m)

  -- an entry's track and clear tracks are tracks
  pub entry_below : (e : ℕ) → e < length p.entries → (entry_of p e).track < length p.tracks
  entry_below e h = (entry_read e h).track

  pub entry_clear_below : (e : ℕ) → e < length p.entries → (u : ℕ) → In u (entry_of p e).clear → u < length p.tracks
  entry_clear_below e h = each_in (λ u. u < length p.tracks) (entry_of p e).clear (entry_read e h).clear.each

  -- no two signals stand on one track
  pub one_signal : (u s t : ℕ) → StandsAt p u s → StandsAt p u t → s ≡ t
  unfolding home_of
  one_signal u s t a b = elim (below? s t) [
    | inl h ↦ (let w = rises_lt p.signals R.signals_rise s t h b.0 in absurd (omega (arith, a.1, b.1)))
    | inr h ↦ (elim (below? t s) [
      | inl k ↦ (let w = rises_lt p.signals R.signals_rise t s k a.0 in absurd (omega (arith, a.1, b.1)))
      | inr k ↦ omega arith
    ])
  ]

  -- what a track leads to is a track
  pub out_below : (u : ℕ) (lie : Bool) → u < length p.tracks → (Exit (track_of p u) → ⊥) → out (track_of p u) lie < length p.tracks
  out_below u lie h x = out_names (track_of p u) (length p.tracks) lie (track_read u h) x
