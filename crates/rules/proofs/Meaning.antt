-- Each rule's test of a row is true exactly when the document's sentence holds of that row.
use mathlib.Core.Path.{◌≡◌, refl, sym, ◌∙◌}
use mathlib.Core.Bool.{Bool, true, false, not, cond, ◌&&◌, ◌||◌}
use mathlib.Core.Logic.{◌≢◌, ◌⊎◌, inl, inr, ◌↔◌}
use mathlib.Core.List.{List}
use Prim.Native.Nat.{ℕ, suc, ◌<◌, ◌-◌}
use native.Mathlib.Omega.{arith}
use lib.ListN.{length, get_or}
use lib.Dec.{eqb, ltb}
use borrow.Author.Tests.{eqb-false, ne_eqb, ltb-true, lt-ltb}
use Rattle.laws.specs.Tests.{Is, split, clash, below?, and_l, and_r, and_i, or_e, or_l, or_r, not_t, not_f, not_i, cond_t, cond_f, fails}
use Rattle.laws.specs.Lists.{All, all_of, has, In, has_in, in_has, all_of_in, in_all_of, all_of_at, all_of_all, different}
use Rattle.laws.specs.Search.{all_below, all_below_at, all_below_all}
use Rattle.plan.specs.declared.Release.{Release}
use Rattle.plan.specs.Kinds.{plain, exit, forks, legged, out, leg, Exit, Forks, Legged}
use Rattle.plan.specs.Records.{Plan, home_of, route_of, entry_of, track_of}
use Rattle.plan.specs.Layout.{leads, is_home, Leads, Home}
use Rattle.plan.specs.Routes.{no_release, points_of, release_of, listed, released, path_length, way_of, track_at}
use Rattle.plan.proofs.Says.{lists, listed_lie, plain_is, exit_is, forks_is, legged_is, home_is, leads_is, leads_track, listed_is, released_is}
use Rattle.rules.specs.Rules.{later, wants, listed_out, listed_in}
use Rattle.rules.specs.Rules.{ways_differ, legs_lead, is_leg, none_leads, forbidden, led_once, home_plain, entry_placed, linked_at, path_linked, no_home_at, ends, path_ends, path_clear, facing_listed, trailing_listed, points_listed, points_clear, release_fits, releases_fit, entry_clear}
use Rattle.rules.specs.Sentences.{WaysDiffer, LegsLead, LedOnce, HomePlain, EntryPlaced, PathLinked, PathEnds, PathClear, PointsListed, PointsClear, ReleasesFit, EntryClear}
use Rattle.rules.specs.Verdict.{Rule, rules}
use Rattle.rules.proofs.Notions.{none_leads_is, leg_is, nand_e, nand_i, imp_e, imp_i, different_is, later_is, wants_is, listed_out_is, listed_in_is}

module _ (p : Plan) where
  pub ways_differ_is : (u : ℕ) → Is (ways_differ p u) ↔ WaysDiffer p u
  unfolding ways_differ
  ways_differ_is u = (
    λ e. record {
      ways = λ f. eqb-false (out (track_of p u) false) (out (track_of p u) true) (nand_e (forks (track_of p u)) ways (and_l (not (forks (track_of p u) && ways)) (not (legged (track_of p u) && legs)) e) ((forks_is (track_of p u)).1 f));
      legs = λ t. eqb-false (leg (track_of p u) false) (leg (track_of p u) true) (nand_e (legged (track_of p u)) legs (and_r (not (forks (track_of p u) && ways)) (not (legged (track_of p u) && legs)) e) ((legged_is (track_of p u)).1 t));
    },
    λ s. and_i (not (forks (track_of p u) && ways)) (not (legged (track_of p u) && legs))
        (nand_i (forks (track_of p u)) ways (λ f. ne_eqb (out (track_of p u) false) (out (track_of p u) true) (s.ways ((forks_is (track_of p u)).0 f))))
        (nand_i (legged (track_of p u)) legs (λ t. ne_eqb (leg (track_of p u) false) (leg (track_of p u) true) (s.legs ((legged_is (track_of p u)).0 t)))),
  )
    where
      ways : Bool
      ways = eqb (out (track_of p u) false) (out (track_of p u) true)

      legs : Bool
      legs = eqb (leg (track_of p u) false) (leg (track_of p u) true)

  pub legs_lead_is : (v : ℕ) → Is (legs_lead p v) ↔ LegsLead p v
  unfolding legs_lead
  legs_lead_is v = (
    λ e t. each (imp_e (legged (track_of p v)) (leads p (leg (track_of p v) false) v && leads p (leg (track_of p v) true) v) e ((legged_is (track_of p v)).1 t)),
    λ s. imp_i (legged (track_of p v)) (leads p (leg (track_of p v) false) v && leads p (leg (track_of p v) true) v) (λ t.
        and_i _ _ ((leads_is p (leg (track_of p v) false) v).1 (s ((legged_is (track_of p v)).0 t) false)) ((leads_is p (leg (track_of p v) true) v).1 (s ((legged_is (track_of p v)).0 t) true))),
  )
    where
      each : Is (leads p (leg (track_of p v) false) v && leads p (leg (track_of p v) true) v) → (lie : Bool) → Leads p (leg (track_of p v) lie) v
      each e false = (leads_is p (leg (track_of p v) false) v).0 (and_l (leads p (leg (track_of p v) false) v) (leads p (leg (track_of p v) true) v) e)
      each e true = (leads_is p (leg (track_of p v) true) v).0 (and_r (leads p (leg (track_of p v) false) v) (leads p (leg (track_of p v) true) v) e)

  -- in the words of the test: what is forbidden
  module _ (v u : ℕ) where
    allowed : forbidden p v u ≡ false → Is (leads p u v) → cond (legged (track_of p v)) (not (is_leg p v u)) (not (none_leads p v u)) ≡ false
    unfolding forbidden
    allowed e l = rw l at e

    leads_not : leads p u v ≡ false → forbidden p v u ≡ false
    unfolding forbidden
    leads_not l = rw l

    leg_allowed : Is (legged (track_of p v)) → Is (is_leg p v u) → forbidden p v u ≡ false
    unfolding forbidden
    leg_allowed t w = rw (t, w) (go (leads p u v))
      where
        go : (b : Bool) → (b && false) ≡ false
        go true = refl
        go false = refl

    first_allowed : legged (track_of p v) ≡ false → Is (none_leads p v u) → forbidden p v u ≡ false
    unfolding forbidden
    first_allowed t w = rw (t, w) (go (leads p u v))
      where
        go : (b : Bool) → (b && false) ≡ false
        go true = refl
        go false = refl

  pub led_once_is : (v : ℕ) → Is (led_once p v) ↔ LedOnce p v
  unfolding led_once
  led_once_is v = (λ e. record { two = two e; legs = λ t u l. (leg_is p v u).0 (only e u l ((legged_is (track_of p v)).1 t)) }, from)
    where
      -- a track that leads to v is allowed to
      free : Is (all_below (length p.tracks) (λ u. not (forbidden p v u))) → (u : ℕ) → Leads p u v → cond (legged (track_of p v)) (not (is_leg p v u)) (not (none_leads p v u)) ≡ false
      free e u l = allowed v u (not_t (forbidden p v u) (all_below_at (length p.tracks) (λ u. not (forbidden p v u)) e u (leads_track p u v l))) ((leads_is p u v).1 l)

      only : Is (all_below (length p.tracks) (λ u. not (forbidden p v u))) → (u : ℕ) → Leads p u v → Is (legged (track_of p v)) → Is (is_leg p v u)
      only e u l t = not_f (is_leg p v u) (sym (cond_t (not (is_leg p v u)) (not (none_leads p v u)) t) ∙ free e u l)

      -- two tracks that lead to v, where v is no trailing point
      none : Is (all_below (length p.tracks) (λ u. not (forbidden p v u))) → (u w : ℕ) → Leads p u v → Leads p w v → legged (track_of p v) ≡ false → w < u → ⊥
      none e u w l m t h = (none_leads_is p v u).0 (not_f (none_leads p v u) (sym (cond_f (not (is_leg p v u)) (not (none_leads p v u)) t) ∙ free e u l)) w h m

      other : (u w : ℕ) → u ≢ w → (a b : Bool) → u ≡ leg (track_of p v) a → w ≡ leg (track_of p v) b → (lie : Bool) × (u ≡ leg (track_of p v) lie) × (w ≡ leg (track_of p v) (not lie))
      other u w n false true x y = (false, x, y)
      other u w n true false x y = (true, x, y)
      other u w n false false x y = absurd (n (x ∙ sym y))
      other u w n true true x y = absurd (n (x ∙ sym y))

      two : Is (all_below (length p.tracks) (λ u. not (forbidden p v u))) → (u w : ℕ) → Leads p u v → Leads p w v → u ≢ w
          → Legged (track_of p v) × ((lie : Bool) × (u ≡ leg (track_of p v) lie) × (w ≡ leg (track_of p v) (not lie)))
      two e u w l m n = elim (split (legged (track_of p v))) [
        | inl t ↦ (let a = (leg_is p v u).0 (only e u l t) in let b = (leg_is p v w).0 (only e w m t) in ((legged_is (track_of p v)).0 t, other u w n a.0 b.0 a.1 b.1))
        | inr t ↦ (elim (below? w u) [ inl h ↦ absurd (none e u w l m t h) | inr h ↦ absurd (none e w u m l t (omega arith)) ])
      ]

      from : LedOnce p v → Is (all_below (length p.tracks) (λ u. not (forbidden p v u)))
      from s = all_below_all (length p.tracks) (λ u. not (forbidden p v u)) (λ u h. not_i (forbidden p v u) (may u))
        where
          may : (u : ℕ) → forbidden p v u ≡ false
          may u = elim (split (leads p u v)) [
            | inl l ↦ (elim (split (legged (track_of p v))) [
              | inl t ↦ leg_allowed v u t ((leg_is p v u).1 (s.legs ((legged_is (track_of p v)).0 t) u ((leads_is p u v).0 l)))
              | inr t ↦ first_allowed v u t ((none_leads_is p v u).1 (λ w h m. clash ((legged_is (track_of p v)).1 (s.two u w ((leads_is p u v).0 l) m (λ q. omega arith)).0) t))
            ])
            | inr l ↦ leads_not v u l
          ]

  pub home_plain_is : (s : ℕ) → Is (home_plain p s) ↔ HomePlain p s
  unfolding home_plain
  home_plain_is s = plain_is (track_of p (home_of p s))

  pub entry_placed_is : (e : ℕ) → Is (entry_placed p e) ↔ EntryPlaced p e
  unfolding entry_placed
  entry_placed_is e = (to, from)
    where
      t : ℕ
      t = (entry_of p e).track

      to : Is (plain (track_of p t) && is_home p t && none_leads p t (length p.tracks)) → EntryPlaced p e
      to w = record {
        is_plain = (plain_is (track_of p t)).0 (and_l (plain (track_of p t)) (is_home p t) (and_l (plain (track_of p t) && is_home p t) (none_leads p t (length p.tracks)) w));
        home = (home_is p t).0 (and_r (plain (track_of p t)) (is_home p t) (and_l (plain (track_of p t) && is_home p t) (none_leads p t (length p.tracks)) w));
        nothing = λ u l. (none_leads_is p t (length p.tracks)).0 (and_r (plain (track_of p t) && is_home p t) (none_leads p t (length p.tracks)) w) u (leads_track p u t l) l;
      }

      from : EntryPlaced p e → Is (plain (track_of p t) && is_home p t && none_leads p t (length p.tracks))
      from s = and_i (plain (track_of p t) && is_home p t) (none_leads p t (length p.tracks)) (and_i (plain (track_of p t)) (is_home p t) ((plain_is (track_of p t)).1 s.is_plain) ((home_is p t).1 s.home))
          ((none_leads_is p t (length p.tracks)).1 (λ u h. s.nothing u))

  pub path_linked_is : (r : ℕ) → Is (path_linked p r) ↔ PathLinked p r
  unfolding path_linked linked_at track_at way_of
  path_linked_is r = (
    λ e. record {
      lead = λ i h. (leads_is p (track_at p r i) (track_at p r (suc i))).0 (all_below_at (path_length p r) (linked_at p r) (and_l linked (different (way_of p r)) e) i h);
      apart = λ i j h g. (different_is (way_of p r)).0 (and_r linked (different (way_of p r)) e) i j h (omega arith);
    },
    λ s. and_i linked (different (way_of p r)) (all_below_all (path_length p r) (linked_at p r) (λ i h. (leads_is p (track_at p r i) (track_at p r (suc i))).1 (s.lead i h)))
        ((different_is (way_of p r)).1 (λ i j h g. s.apart i j h (omega arith))),
  )
    where
      linked : Bool
      linked = all_below (path_length p r) (linked_at p r)

  pub path_ends_is : (r : ℕ) → Is (path_ends p r) ↔ PathEnds p r
  unfolding path_ends no_home_at ends
  path_ends_is r = (
    λ e. record {
      middle = λ i h w. clash ((home_is p (track_at p r (suc i))).1 w)
          (not_t (is_home p (track_at p r (suc i))) (all_below_at (path_length p r - 1) (no_home_at p r) (and_l passes (is_home p z || exit (track_of p z)) e) i (omega arith)));
      last = last (or_e (is_home p z) (exit (track_of p z)) (and_r passes (is_home p z || exit (track_of p z)) e));
    },
    λ s. and_i passes (is_home p z || exit (track_of p z))
        (all_below_all (path_length p r - 1) (no_home_at p r) (λ i h. not_i (is_home p (track_at p r (suc i))) (fails (is_home p (track_at p r (suc i)))
        (λ w. s.middle i (omega arith) ((home_is p (track_at p r (suc i))).0 w)))))
        (back s.last),
  )
    where
      passes : Bool
      passes = all_below (path_length p r - 1) (no_home_at p r)

      z : ℕ
      z = track_at p r (path_length p r)

      last : Is (is_home p z) ⊎ Is (exit (track_of p z)) → Home p z ⊎ Exit (track_of p z)
      last (inl w) = inl ((home_is p z).0 w)
      last (inr w) = inr ((exit_is (track_of p z)).0 w)

      back : Home p z ⊎ Exit (track_of p z) → Is (is_home p z || exit (track_of p z))
      back (inl w) = or_l (is_home p z) (exit (track_of p z)) ((home_is p z).1 w)
      back (inr w) = or_r (is_home p z) (exit (track_of p z)) ((exit_is (track_of p z)).1 w)

  -- one list holds all of another
  all_in_is : (l m : List ℕ) → (Is (all_of (λ u. has u m) l)) ↔ ((u : ℕ) → In u l → In u m)
  all_in_is l m = (λ e u w. has_in u m (all_of_in (λ u. has u m) l e u (in_has u l w)), λ f. in_all_of (λ u. has u m) l (λ u w. in_has u m (f u w)))

  pub path_clear_is : (r : ℕ) → Is (path_clear p r) ↔ PathClear p r
  unfolding path_clear
  path_clear_is r = all_in_is (route_of p r).path (route_of p r).clear

  pub points_clear_is : (r : ℕ) → Is (points_clear p r) ↔ PointsClear p r
  unfolding points_clear
  points_clear_is r = (
    λ e x w. let l = listed_lie p r x w in to e x l.0 l.1,
    λ s. and_i _ _ ((all_in_is (points_of p r false) (route_of p r).clear).1 (λ x w. s x (lists p r x false w))) ((all_in_is (points_of p r true) (route_of p r).clear).1 (λ x w. s x (lists p r x true w))),
  )
    where
      held : Bool → Bool
      held lie = all_of (λ x. has x (route_of p r).clear) (points_of p r lie)

      to : Is (held false && held true) → (x : ℕ) (lie : Bool) → In x (points_of p r lie) → In x (route_of p r).clear
      to e x false w = (all_in_is (points_of p r false) (route_of p r).clear).0 (and_l (held false) (held true) e) x w
      to e x true w = (all_in_is (points_of p r true) (route_of p r).clear).0 (and_r (held false) (held true) e) x w

  pub entry_clear_is : (e : ℕ) → Is (entry_clear p e) ↔ EntryClear p e
  unfolding entry_clear
  entry_clear_is e = (has_in (entry_of p e).track (entry_of p e).clear, in_has (entry_of p e).track (entry_of p e).clear)

  module _ (r i : ℕ) where
    abbrev x : ℕ
    x = track_at p r (suc i)

    facing_listed_is : Is (facing_listed p r i)
        ↔ (Forks (track_of p x) → (lie : Bool) × In x (points_of p r lie) × (suc i < path_length p r) × (out (track_of p x) lie ≡ track_at p r (suc (suc i))))
    unfolding facing_listed
    facing_listed_is = (to, from)
      where
        v : ℕ
        v = track_at p r (suc (suc i))

        to : Is (not (forks (track_of p x)) || ltb (suc i) (path_length p r) && listed_out p r x v)
            → Forks (track_of p x) → (lie : Bool) × In x (points_of p r lie) × (suc i < path_length p r) × (out (track_of p x) lie ≡ v)
        to e f =
            let w = imp_e (forks (track_of p x)) (ltb (suc i) (path_length p r) && listed_out p r x v) e ((forks_is (track_of p x)).1 f) in
            let l = (listed_out_is p r x v).0 (and_r (ltb (suc i) (path_length p r)) (listed_out p r x v) w) in
            (l.0, l.1, ltb-true (suc i) (path_length p r) (and_l (ltb (suc i) (path_length p r)) (listed_out p r x v) w), l.2)

        from : (Forks (track_of p x) → (lie : Bool) × In x (points_of p r lie) × (suc i < path_length p r) × (out (track_of p x) lie ≡ v))
            → Is (not (forks (track_of p x)) || ltb (suc i) (path_length p r) && listed_out p r x v)
        from s = imp_i (forks (track_of p x)) (ltb (suc i) (path_length p r) && listed_out p r x v) (λ f. let w = s ((forks_is (track_of p x)).0 f) in
            and_i (ltb (suc i) (path_length p r)) (listed_out p r x v) (lt-ltb (suc i) (path_length p r) w.2) ((listed_out_is p r x v).1 (w.0, w.1, w.3)))

    trailing_listed_is : Is (trailing_listed p r i)
        ↔ (Legged (track_of p x) → (lie : Bool) × In x (points_of p r lie) × (leg (track_of p x) lie ≡ track_at p r i))
    unfolding trailing_listed
    trailing_listed_is = (
      λ e t. (listed_in_is p r x (track_at p r i)).0 (imp_e (legged (track_of p x)) (listed_in p r x (track_at p r i)) e ((legged_is (track_of p x)).1 t)),
      λ s. imp_i (legged (track_of p x)) (listed_in p r x (track_at p r i)) (λ t. (listed_in_is p r x (track_at p r i)).1 (s ((legged_is (track_of p x)).0 t))),
    )

  pub points_listed_is : (r : ℕ) → Is (points_listed p r) ↔ PointsListed p r
  unfolding points_listed
  points_listed_is r = (to, from)
    where
      a : Bool
      a = all_below (path_length p r) (facing_listed p r)

      b : Bool
      b = all_below (path_length p r) (trailing_listed p r)

      c : Bool
      c = all_of (λ x. not (wants p r x true)) (points_of p r false)

      to : Is (a && b && c) → PointsListed p r
      to e = record {
        ways = λ i h. (facing_listed_is r i).0 (all_below_at (path_length p r) (facing_listed p r) (and_l a b (and_l (a && b) c e)) i h);
        legs = λ i h. (trailing_listed_is r i).0 (all_below_at (path_length p r) (trailing_listed p r) (and_r a b (and_l (a && b) c e)) i h);
        apart = λ x m n. clash ((wants_is p r x true).1 n) (not_t (wants p r x true)
            (all_of_in (λ x. not (wants p r x true)) (points_of p r false) (and_r (a && b) c e) x (in_has x (points_of p r false) m)));
      }

      from : PointsListed p r → Is (a && b && c)
      from s = and_i (a && b) c (and_i a b
          (all_below_all (path_length p r) (facing_listed p r) (λ i h. (facing_listed_is r i).1 (s.ways i h)))
          (all_below_all (path_length p r) (trailing_listed p r) (λ i h. (trailing_listed_is r i).1 (s.legs i h))))
          (in_all_of (λ x. not (wants p r x true)) (points_of p r false) (λ x m. not_i (wants p r x true) (fails (wants p r x true) (λ n. s.apart x m ((wants_is p r x true).0 n)))))

  pub releases_fit_is : (r : ℕ) → Is (releases_fit p r) ↔ ReleasesFit p r
  unfolding releases_fit release_fits release_of track_at way_of
  releases_fit_is r = (to, from)
    where
      known : ℕ → Bool
      known x = listed (route_of p r).normal (route_of p r).reverse x

      fits : Release → Bool
      fits q = known q.point && later q.track q.point (route_of p r).path

      of_listed : (q : Release) → Is (fits q) → Is (known q.point)
      of_listed q e = and_l (known q.point) (later q.track q.point (route_of p r).path) e

      is_later : (q : Release) → Is (fits q) → Is (later q.track q.point (route_of p r).path)
      is_later q e = and_r (known q.point) (later q.track q.point (route_of p r).path) e

      a : Bool
      a = all_of fits (route_of p r).releases

      b : Bool → Bool
      b lie = all_of (released p r) (points_of p r lie)

      each : (lie : Bool) → Is (a && b false && b true) → Is (b lie)
      each false e = and_r a (b false) (and_l (a && b false) (b true) e)
      each true e = and_r (a && b false) (b true) e

      to : Is (a && b false && b true) → ReleasesFit p r
      to e = record {
        points = λ x. (
          λ w. rw (← w.2) ((listed_is p r _).0 (of_listed (get_or (route_of p r).releases w.0 no_release) (fit w.0 w.1))),
          λ w. let l = listed_lie p r x w in (released_is p r x).0 (all_of_in (released p r) (points_of p r l.0) (each l.0 e) x (in_has x (points_of p r l.0) l.1)),
        );
        on_path = λ k h. ((later_is _ _ (route_of p r).path).0 (is_later (get_or (route_of p r).releases k no_release) (fit k h))).0;
        after = λ k i j h. ((later_is _ _ (route_of p r).path).0 (is_later (get_or (route_of p r).releases k no_release) (fit k h))).1 i j;
      }
        where
          fit : (k : ℕ) → k < length (route_of p r).releases → Is (fits (get_or (route_of p r).releases k no_release))
          fit k h = all_of_at fits (route_of p r).releases k no_release (and_l a (b false) (and_l (a && b false) (b true) e)) h

      from : ReleasesFit p r → Is (a && b false && b true)
      from s = and_i (a && b false) (b true) (and_i a (b false) (all_of_all fits (route_of p r).releases no_release fit) (back false)) (back true)
        where
          fit : (k : ℕ) → k < length (route_of p r).releases → Is (fits (get_or (route_of p r).releases k no_release))
          fit k h = and_i _ _ ((listed_is p r _).1 ((s.points _).0 (k, h, refl))) ((later_is _ _ (route_of p r).path).1 (s.on_path k h, λ i j. s.after k i j h))

          back : (lie : Bool) → Is (b lie)
          back lie = in_all_of (released p r) (points_of p r lie) (λ x m. (released_is p r x).1 ((s.points x).1 (lists p r x lie m)))

-- The rules of the list, one after another.

abbrev pub Tied : Rule → Type 0
Tied rule = (i : ℕ) → Is (rule.test i) ↔ rule.sentence i

infixr 50 ◌and◌
abbrev ◌and◌ : {A B : Type 0} → A → B → A × B
a and b = (a, b)

pub tied : (p : Plan) → All Tied (rules p)
unfolding All rules
tied p =
    ways_differ_is p
    and legs_lead_is p
    and led_once_is p
    and home_plain_is p
    and entry_placed_is p
    and path_linked_is p
    and path_ends_is p
    and path_clear_is p
    and points_listed_is p
    and points_clear_is p
    and releases_fit_is p
    and entry_clear_is p
    and tt
