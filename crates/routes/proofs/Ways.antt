-- What a route's lists as read say of its rules.
use mathlib.Core.Path.{◌≡◌, refl, ap, ◌∙◌}
use mathlib.Core.Bool.{Bool, true, false, not, cond}
use mathlib.Core.List.{List, [], ◌∷◌, ◌++◌, map}
use Prim.Native.Nat.{ℕ, ◌+◌, ◌*◌, ◌/◌, ◌≤◌, ◌-◌}
use native.Mathlib.Omega.{arith}
use native.Mathlib.Nat.{min-le_left}
use lib.ListN.{length, get_or, drop, length-take, length-append, get_or-append}
use lib.Dec.{ltb}
use Rattle.std.specs.List.{list_all, list_any}
use Rattle.std.specs.Simd.{first_chunks}
use Rattle.std.proofs.lemmas.List.Folds.{list_all-map}
use Rattle.laws.specs.Lists.{joined}
use Rattle.laws.specs.Search.{all_below}
use Rattle.laws.specs.Walks.{below_each}
use Rattle.plan.specs.declared.Release.{Release}
use Rattle.plan.specs.Limits.{most_path, path_at, most_routes, routes_at, route_size}
use Rattle.plan.specs.Records.{Plan, route_of}
use Rattle.plan.specs.Layout.{is_home}
use Rattle.plan.specs.Routes.{path_length, way_of, track_at}
use Rattle.plan.specs.File.{release_file}
use Rattle.plan.specs.Image.{count_in, list_in, route_in, plan_of, route_list}
use Rattle.plan.proofs.View.{count_most, route_list_lem}
use Rattle.rules.specs.Rules.{no_home_at}

list_most : (image : List ℕ) (at most : ℕ) → length (list_in image at most) ≤ most
unfolding list_in
list_most image at most =
    rw (length-take (count_in image at most) (drop (at + 1) image)) (omega (arith, min-le_left (count_in image at most) (length (drop (at + 1) image)), count_most image at most))

-- a path is no longer than it may be
pub path_most : (image : List ℕ) (r : ℕ) → path_length (plan_of image) r ≤ most_path
unfolding route_in route_list
path_most image r = rw (← route_list_lem image r path_at most_path (λ q. q.path) refl (λ base. refl)) (short (ltb r (count_in image routes_at most_routes)))
  where
    short : (b : Bool) → length (cond b (list_in image (routes_at + 1 + route_size * r + path_at) most_path) []) ≤ most_path
    short true = list_most image (routes_at + 1 + route_size * r + path_at) most_path
    short false = omega arith

-- the track after place i is a home, or not
no_home_read : (p : Plan) (r i : ℕ) {l : List ℕ} → l ≡ (route_of p r).path → no_home_at p r i ≡ not (is_home p (get_or l i 0))
unfolding no_home_at track_at way_of
no_home_read p r i e = rw e

-- every track but the last one
pub passed_read : (p : Plan) (r : ℕ) {l : List ℕ} (passed : List ℕ) (last : ℕ) → l ≡ (route_of p r).path → l ≡ passed ++ last ∷ []
    → list_all (λ u. not (is_home p u)) passed ≡ all_below (path_length p r - 1) (no_home_at p r)
passed_read p r passed last e d =
    let n : path_length p r - 1 ≡ length passed = omega (arith, ap length e, ap length d, length-append passed (last ∷ [])) in
    below_each (λ u. not (is_home p u)) passed 0 (no_home_at p r)
    (λ i h. no_home_read p r i e ∙ ap (λ u. not (is_home p u)) (ap (λ m. get_or m i 0) d ∙ get_or-append passed (last ∷ []) 0 i h)) ∙ rw n

-- Releases, as the file has them: track, point, track, point .. Two numbers at a time they are the releases' files, one by one.

pairs_length : (l : List Release) → length (joined release_file l) / 2 ≡ length l
unfolding joined release_file
pairs_length [] = refl
pairs_length (q ∷ l) = let h = pairs_length l in omega arith

pairs_cut : (l : List Release) → first_chunks 2 (length l) (joined release_file l) ≡ map release_file l
unfolding joined release_file
pairs_cut [] = refl
pairs_cut (q ∷ l) = rw (pairs_cut l)

module _ (l : List Release) {flat : List ℕ} {pairs : List (List ℕ)} (e : flat ≡ joined release_file l) (d : pairs ≡ first_chunks 2 (length flat / 2) flat) where
  pairs_read : pairs ≡ map release_file l
  pairs_read = d ∙ rw (e, pairs_length l) (pairs_cut l)

  pub pairs_all : (f : ℕ → ℕ → Bool) → list_all (λ a. f (get_or a 0 0) (get_or a 1 0)) pairs ≡ list_all (λ q. f q.track q.point) l
  unfolding release_file
  pairs_all f = rw pairs_read (list_all-map (λ a. f (get_or a 0 0) (get_or a 1 0)) release_file l)

  pub pairs_any : (f : ℕ → ℕ → Bool) → list_any (λ a. f (get_or a 0 0) (get_or a 1 0)) pairs ≡ list_any (λ q. f q.track q.point) l
  unfolding release_file
  pairs_any f = rw pairs_read (any l)
    where
      any : (l : List Release) → list_any (λ a. f (get_or a 0 0) (get_or a 1 0)) (map release_file l) ≡ list_any (λ q. f q.track q.point) l
      any [] = refl
      any (q ∷ l) = rw (any l)
