-- The plan rules of document 01, each a test of one row.
use Rattle.std.specs.Prelude.{ℕ, suc, ◌-◌, Bool, true, false, not, cond, ◌&&◌, ◌||◌, List, [], ◌∷◌, length, eqb, ltb}
use Rattle.laws.specs.Lists.{all_of, has, different}
use Rattle.laws.specs.Search.{all_below}
use Rattle.plan.specs.Kinds.{plain, exit, forks, legged, out, leg}
use Rattle.plan.specs.Records.{Plan, track_of, home_of, route_of, entry_of}
use Rattle.plan.specs.Layout.{leads, is_home}
use Rattle.plan.specs.Routes.{path_length, way_of, track_at, points_of, listed, released}

-- v is on a path, and later than x where x is on it
unfoldable pub later : ℕ → ℕ → List ℕ → Bool
later v x [] = false
later v x (u ∷ l) = cond (eqb u v) (not (has x (u ∷ l))) (later v x l)

-- What a route lists for a lie.
module _ (p : Plan) (r : ℕ) where
  -- it lists the point x for a lie
  unfoldable pub wants : ℕ → Bool → Bool
  wants x lie = has x (points_of p r lie)

  -- it lists x for a lie, and by that lie x leads to v; for some lie
  unfoldable pub wants_out : ℕ → Bool → ℕ → Bool
  wants_out x lie v = wants x lie && eqb (out (track_of p x) lie) v

  unfoldable pub listed_out : ℕ → ℕ → Bool
  listed_out x v = wants_out x false v || wants_out x true v

  -- it lists x for a lie, and by that lie x is entered from u; for some lie
  unfoldable pub wants_in : ℕ → Bool → ℕ → Bool
  wants_in x lie u = wants x lie && eqb (leg (track_of p x) lie) u

  unfoldable pub listed_in : ℕ → ℕ → Bool
  listed_in x u = wants_in x false u || wants_in x true u

module _ (p : Plan) where
  -- 1 (row: track). The two ways out of a facing point differ; so do the two legs of a trailing point.
  unfoldable pub ways_differ : ℕ → Bool
  ways_differ u =
      not (forks (track_of p u) && eqb (out (track_of p u) false) (out (track_of p u) true))
      && not (legged (track_of p u) && eqb (leg (track_of p u) false) (leg (track_of p u) true))

  -- 2 (track). Each leg of a trailing point leads to it.
  unfoldable pub legs_lead : ℕ → Bool
  legs_lead v = not (legged (track_of p v)) || leads p (leg (track_of p v) false) v && leads p (leg (track_of p v) true) v

  unfoldable pub is_leg : ℕ → ℕ → Bool
  is_leg v u = eqb (leg (track_of p v) false) u || eqb (leg (track_of p v) true) u

  -- no track below u leads to v
  unfoldable pub none_leads : ℕ → ℕ → Bool
  none_leads v u = all_below u (λ w. not (leads p w v))

  -- u leads to v and must not: v is a trailing point and u is none of its legs, or another track leads to v already
  unfoldable pub forbidden : ℕ → ℕ → Bool
  forbidden v u = leads p u v && cond (legged (track_of p v)) (not (is_leg v u)) (not (none_leads v u))

  -- 3 (track led to). No two tracks lead to the same track, except the two legs of a trailing point; nothing but its legs leads to a
  -- trailing point.
  unfoldable pub led_once : ℕ → Bool
  led_once v = all_below (length p.tracks) (λ u. not (forbidden v u))

  -- 4 (signal). A home track is plain.
  unfoldable pub home_plain : ℕ → Bool
  home_plain s = plain (track_of p (home_of p s))

  -- 5 (entry). An entry track is plain, is some signal's home, and nothing leads to it.
  unfoldable pub entry_placed : ℕ → Bool
  entry_placed e = plain (track_of p (entry_of p e).track) && is_home p (entry_of p e).track && none_leads (entry_of p e).track (length p.tracks)

  -- the track at place i of a route leads to the following one
  unfoldable pub linked_at : ℕ → ℕ → Bool
  linked_at r i = leads p (track_at p r i) (track_at p r (suc i))

  -- 6 (route). The home leads to the first path track, each path track to the following one; home and path tracks are all different.
  unfoldable pub path_linked : ℕ → Bool
  path_linked r = all_below (path_length p r) (linked_at r) && different (way_of p r)

  -- the path track at i is no home
  unfoldable pub no_home_at : ℕ → ℕ → Bool
  no_home_at r i = not (is_home p (track_at p r (suc i)))

  -- a train may stop there: a home or an exit
  unfoldable pub ends : ℕ → Bool
  ends u = is_home p u || exit (track_of p u)

  -- 7 (route). No path track but the last is a home; the last is a home or an exit.
  unfoldable pub path_ends : ℕ → Bool
  path_ends r = all_below (path_length p r - 1) (no_home_at r) && ends (track_at p r (path_length p r))

  -- 8 (route). The clear list holds the whole path.
  unfoldable pub path_clear : ℕ → Bool
  path_clear r = all_of (λ u. has u (route_of p r).clear) (route_of p r).path

  -- the path track at i, if it is a facing point, is listed by the way out taken, and there is one
  unfoldable pub facing_listed : ℕ → ℕ → Bool
  facing_listed r i = not (forks (track_of p (track_at p r (suc i)))) || ltb (suc i) (path_length p r) && listed_out p r (track_at p r (suc i)) (track_at p r (suc (suc i)))

  -- if it is a trailing point, it is listed by the leg it is entered from
  unfoldable pub trailing_listed : ℕ → ℕ → Bool
  trailing_listed r i = not (legged (track_of p (track_at p r (suc i)))) || listed_in p r (track_at p r (suc i)) (track_at p r i)

  -- 9 (route). Each facing point on the path is listed normal or reverse by the way out taken, each trailing point by the leg it is
  -- entered from; no point is in both lists.
  unfoldable pub points_listed : ℕ → Bool
  points_listed r =
      all_below (path_length p r) (facing_listed r)
      && all_below (path_length p r) (trailing_listed r)
      && all_of (λ x. not (wants p r x true)) (points_of p r false)

  -- 10 (route). Every listed point is in the clear list.
  unfoldable pub points_clear : ℕ → Bool
  points_clear r = all_of (λ x. has x (route_of p r).clear) (points_of p r false) && all_of (λ x. has x (route_of p r).clear) (points_of p r true)

  -- x is a listed point, and v is on the path, later than x where x is on it
  unfoldable pub release_fits : ℕ → ℕ → ℕ → Bool
  release_fits r v x = listed (route_of p r).normal (route_of p r).reverse x && later v x (route_of p r).path

  -- 11 (route). The release list's points are exactly the listed points; each release track is on the path, and later than its point
  -- where the point is on the path.
  unfoldable pub releases_fit : ℕ → Bool
  releases_fit r =
      all_of (λ q. release_fits r q.track q.point) (route_of p r).releases
      && all_of (released p r) (points_of p r false)
      && all_of (released p r) (points_of p r true)

  -- 12 (entry). The clear list holds the entry track.
  unfoldable pub entry_clear : ℕ → Bool
  entry_clear e = has (entry_of p e).track (entry_of p e).clear
