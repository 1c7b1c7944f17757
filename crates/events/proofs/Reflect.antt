-- Each test says what its sentence says.
use Rattle.std.specs.Prelude.{None, Option, Some}
use mathlib.Core.Path.{◌≡◌, refl, sym, ap, ◌∙◌}
use mathlib.Core.Bool.{Bool, true, false, not}
use mathlib.Core.Logic.{◌≢◌, ◌⊎◌, inl, inr, ◌↔◌}
use mathlib.Core.List.{List}
use Prim.Native.Nat.{ℕ, suc, ◌<◌}
use native.Mathlib.Omega.{arith}
use lib.ListN.{length, get_or}
use lib.Dec.{eqb}
use borrow.Author.Tests.{eqb-true, eqb-false, eq-eqb, ne_eqb}
use Rattle.laws.specs.Tests.{Is, split, never, clash, below?, and_l, and_r, and_i, not_t, not_i, cond_t, cond_f, fails}
use Rattle.laws.specs.Lists.{In, has, has_in, in_has}
use Rattle.laws.specs.Answers.{NoSuch, LowestSuch}
use Rattle.laws.specs.Search.{lowest, lowest_at, lowest_none, at_lowest}
use Rattle.plan.specs.Kinds.{legged, out, leg}
use Rattle.plan.specs.Records.{Plan, home_of, route_of, track_of}
use Rattle.plan.specs.Layout.{signal_at, StandsAt}
use Rattle.plan.specs.Routes.{Listed}
use Rattle.plan.specs.File.{Readable}
use Rattle.plan.proofs.Says.{legged_is}
use Rattle.state.specs.declared.State.{State}
use Rattle.state.specs.Holds.{empty}
use Rattle.state.specs.State.{no_train, normal_lie, reverse_lie, red, green_for, train_at, lie_at, held_by, shown_at, HasTrain, Holds, WellFormed}
use Rattle.state.proofs.Holds.{some_member, member_some}
use Rattle.events.specs.Decide.{has_train, is_red, is_green, is_reverse, busy, with_train, busy_train, is_held, lie_after, turns, held_other, derails, stands, front_of, in_plan, is_found, if_red, red_at, way_out, runs_through}
use Rattle.events.specs.Meaning.{Busy, Meets, OtherLie, HeldOther, Derails, FrontAt, InPlan, RedAt, Next, RunsThrough}
use Rattle.events.proofs.Facts.{one_signal}

-- A search over a test that tells what is so finds the lowest that is so.
pub record Tells (n : ℕ) (f : ℕ → Bool) (Such : ℕ → Type 0) : Type 0 where
  pub says : (x : ℕ) → Is (f x) → Such x
  pub hears : (x : ℕ) → Such x → Is (f x)
  pub inside : (x : ℕ) → Such x → x < n

module _ {n : ℕ} {f : ℕ → Bool} {Such : ℕ → Type 0} (t : Tells n f Such) where
  pub search_at : {x : ℕ} → lowest n f ≡ Some x → LowestSuch Such x
  search_at {x} e = let l = lowest_at n f e in record { such = t.says x l.passes; no_lower = λ y h s. clash (t.hears y s) (l.first y h) }

  pub search_none : lowest n f ≡ None → NoSuch Such
  search_none e x s = clash (t.hears x s) (lowest_none n f e x (t.inside x s))

  pub at_search : {x : ℕ} → LowestSuch Such x → lowest n f ≡ Some x
  at_search {x} l = at_lowest n f (record {
    below = t.inside x l.such;
    passes = t.hears x l.such;
    first = λ y h. fails (f y) (λ e. l.no_lower y h (t.says y e));
  })

-- Cells.
module _ (σ : State) where
  pub train_tests : (u : ℕ) → Is (has_train σ.trains u) ↔ HasTrain σ u
  unfolding has_train train_at
  train_tests u = (λ e. eqb-false (get_or σ.trains u 0) 0 (not_t _ e), λ h. not_i _ (ne_eqb (get_or σ.trains u 0) 0 h))

  pub red_tests : (s : ℕ) → Is (is_red σ.signals s) ↔ (shown_at σ s ≡ red)
  unfolding is_red shown_at
  red_tests s = (eqb-true (get_or σ.signals s 0) 0, eq-eqb (get_or σ.signals s 0) 0)

  pub green_tests : (s r : ℕ) → Is (is_green σ.signals s r) ↔ (shown_at σ s ≡ green_for r)
  unfolding is_green shown_at
  green_tests s r = (eqb-true (get_or σ.signals s 0) (suc r), eq-eqb (get_or σ.signals s 0) (suc r))

  pub held_tests : (q : ℕ) → Is (is_held σ.holds q) ↔ ((k : ℕ) × Holds σ k q)
  unfolding is_held empty held_by
  held_tests q = (λ e. some_member (get_or σ.holds q 0) (eqb-false _ 0 (not_t _ e)), λ s. not_i _ (ne_eqb _ 0 (member_some _ s.0 s.1)))

  pub reverse_true : (q : ℕ) → lie_at σ q ≡ reverse_lie → is_reverse σ.lies q ≡ true
  unfolding is_reverse lie_at
  reverse_true q e = eq-eqb (get_or σ.lies q 0) 1 e

  pub reverse_false : (q : ℕ) → lie_at σ q ≡ normal_lie → is_reverse σ.lies q ≡ false
  unfolding is_reverse lie_at
  reverse_false q e = ne_eqb (get_or σ.lies q 0) 1 (λ z. omega arith)

module _ (p : Plan) (σ : State) where
  pub busy_tells : (clear : List ℕ) (n : ℕ) → ((u : ℕ) → In u clear → u < n) → Tells n (busy clear σ.trains) (Busy p σ clear)
  unfolding busy
  busy_tells clear n h = record {
    says = λ u e. (has_in u clear (and_r (has_train σ.trains u) (has u clear) e), (train_tests σ u).0 (and_l (has_train σ.trains u) (has u clear) e));
    hears = λ u s. and_i _ _ ((train_tests σ u).1 s.1) (in_has u clear s.0);
    inside = λ u s. h u s.0;
  }

  pub busy_train_tells : (clear : List ℕ) (n : ℕ) → ((u : ℕ) → In u clear → u < n) → Meets p σ clear (busy_train n clear σ.trains)
  unfolding busy_train train_at
  busy_train_tells clear n h = go (lowest n (busy clear σ.trains)) refl
    where
      go : (o : Option ℕ) → lowest n (busy clear σ.trains) ≡ o → Meets p σ clear (with_train σ.trains o)
      go (Some u) e = (search_at (busy_tells clear n h) e, refl)
      go None e = search_none (busy_tells clear n h) e

  -- what would be turned is listed
  pub other_listed : (r q : ℕ) → OtherLie p σ r q → Listed p r q
  other_listed r q (inl s) = inr s.0
  other_listed r q (inr s) = inl s.1

  -- and goes by the point's own lie alone
  pub other_same : (τ : State) (r q : ℕ) → lie_at τ q ≡ lie_at σ q → OtherLie p σ r q → OtherLie p τ r q
  other_same τ r q e (inl (w, d)) = inl (w, λ z. d (sym e ∙ z))
  other_same τ r q e (inr (n, w, d)) = inr (n, w, λ z. d (sym e ∙ z))

  module _ (r n : ℕ) (h : (q : ℕ) → Listed p r q → q < n) where
    other_says : (q : ℕ) → lie_after (route_of p r).normal (route_of p r).reverse σ.lies q ≢ lie_at σ q → OtherLie p σ r q
    unfolding lie_after lie_at
    other_says q d = go (split (has q (route_of p r).reverse)) (split (has q (route_of p r).normal))
      where
        go : (has q (route_of p r).reverse ≡ true) ⊎ (has q (route_of p r).reverse ≡ false) → (has q (route_of p r).normal ≡ true) ⊎ (has q (route_of p r).normal ≡ false) → OtherLie p σ r q
        go (inl a) b = inl (has_in q (route_of p r).reverse a, λ z. d (cond_t _ _ a ∙ sym z))
        go (inr a) (inl b) = inr (λ m. clash (in_has q (route_of p r).reverse m) a, has_in q (route_of p r).normal b, λ z. d (cond_f _ _ a ∙ cond_t _ _ b ∙ sym z))
        go (inr a) (inr b) = absurd (d (cond_f _ _ a ∙ cond_f _ _ b))

    other_hears : (q : ℕ) → OtherLie p σ r q → lie_after (route_of p r).normal (route_of p r).reverse σ.lies q ≢ lie_at σ q
    unfolding lie_after lie_at
    other_hears q (inl s) z = s.1 (sym z ∙ cond_t _ _ (in_has q (route_of p r).reverse s.0))
    other_hears q (inr s) z =
        s.2 (sym z ∙ cond_f _ _ (fails (has q (route_of p r).reverse) (λ e. s.0 (has_in q (route_of p r).reverse e))) ∙ cond_t _ _ (in_has q (route_of p r).normal s.1))

    abbrev turned : ℕ → Bool
    turned q = turns (route_of p r).normal (route_of p r).reverse σ.lies q

    turn_tests : (q : ℕ) → Is (turned q) ↔ OtherLie p σ r q
    unfolding turns lie_at
    turn_tests q = (λ e. other_says q (eqb-false _ _ (not_t _ e)), λ s. not_i _ (ne_eqb _ _ (other_hears q s)))

    pub held_tells : Tells n (held_other (route_of p r).normal (route_of p r).reverse σ.lies σ.holds) (HeldOther p σ r)
    unfolding held_other
    held_tells = record {
      says = λ q e. ((held_tests σ q).0 (and_l (is_held σ.holds q) (turned q) e), (turn_tests q).0 (and_r (is_held σ.holds q) (turned q) e));
      hears = λ q s. and_i _ _ ((held_tests σ q).1 s.0) ((turn_tests q).1 s.1);
      inside = λ q s. h q (other_listed r q s.1);
    }

    pub derails_tells : Tells n (derails (route_of p r).normal (route_of p r).reverse σ.trains σ.lies) (Derails p σ r)
    unfolding derails
    derails_tells = record {
      says = λ q e. ((train_tests σ q).0 (and_l (has_train σ.trains q) (turned q) e), (turn_tests q).0 (and_r (has_train σ.trains q) (turned q) e));
      hears = λ q s. and_i _ _ ((train_tests σ q).1 s.0) ((turn_tests q).1 s.1);
      inside = λ q s. h q (other_listed r q s.1);
    }

  -- where a train stands
  module _ (W : WellFormed p σ) (train : ℕ) (t : train ≢ no_train) where
    pub front_tells : Tells (length p.tracks) (stands σ.trains train) (FrontAt p σ train)
    unfolding stands train_at
    front_tells = record {
      says = λ u e. eqb-true _ _ e;
      hears = λ u e. eq-eqb _ _ e;
      inside = λ u e. elim (below? u (length p.tracks)) [ inl h ↦ h | inr h ↦ absurd (t (sym e ∙ W.trains_end u h)) ];
    }

    pub front_at : {u : ℕ} → FrontAt p σ train u → front_of p σ.trains train ≡ Some u
    unfolding front_of
    front_at {u} e = at_search front_tells (record { such = e; no_lower = λ y h s. let z = W.once u y (λ n. t (sym e ∙ n)) (e ∙ sym s) in absurd (omega arith) })

    pub at_front : {u : ℕ} → front_of p σ.trains train ≡ Some u → FrontAt p σ train u
    unfolding front_of
    at_front e = (search_at front_tells e).such

    in_says : Is (in_plan p σ.trains train) → InPlan p σ train
    unfolding in_plan
    in_says e = go (front_of p σ.trains train) refl e
      where
        go : (o : Option ℕ) → front_of p σ.trains train ≡ o → Is (is_found o) → InPlan p σ train
        go (Some u) q i = (u, at_front q)
        go None q i = clash {b = false} i refl

    in_hears : InPlan p σ train → Is (in_plan p σ.trains train)
    unfolding in_plan
    in_hears w = rw (front_at w.1)

    pub in_tests : Is (in_plan p σ.trains train) ↔ InPlan p σ train
    in_tests = (in_says, in_hears)

  -- the red signal at a track's end
  home_at : (u s : ℕ) → signal_at p u ≡ Some s → StandsAt p u s
  unfolding signal_at
  home_at u s e = let l = lowest_at (length p.signals) (λ s. eqb (home_of p s) u) e in (l.below, eqb-true _ _ l.passes)

  home_none : (u : ℕ) → signal_at p u ≡ None → (s : ℕ) → StandsAt p u s → ⊥
  unfolding signal_at
  home_none u e s w = clash (eq-eqb (home_of p s) u w.1) (lowest_none (length p.signals) (λ s. eqb (home_of p s) u) e s w.0)

  module _ (R : Readable p) (u : ℕ) where
    at_home : (s : ℕ) → StandsAt p u s → signal_at p u ≡ Some s
    at_home s w = go (signal_at p u) refl
      where
        go : (o : Option ℕ) → signal_at p u ≡ o → o ≡ Some s
        go (Some t) e = ap Some (one_signal p R u t s (home_at u t e) w)
        go None e = absurd (home_none u e s w)

    pub red_at_lem : {s : ℕ} → red_at p σ.signals u ≡ Some s → RedAt p σ u s
    unfolding red_at
    red_at_lem {s} e = go (signal_at p u) refl e
      where
        go : (o : Option ℕ) → signal_at p u ≡ o → if_red σ.signals o ≡ Some s → RedAt p σ u s
        go (Some t) q z = elim (split (is_red σ.signals t)) [
          | inl y ↦ (let w : Some t ≡ Some s = sym (cond_t (Some t) None y) ∙ z in
              let x : t ≡ s = cc in
              rw (← x) (home_at u t q, (red_tests σ t).0 y))
          | inr n ↦ never (cc (cond_f (Some t) None n))
        ]
        go None q z = never (cc)

    pub at_red : {s : ℕ} → RedAt p σ u s → red_at p σ.signals u ≡ Some s
    unfolding red_at
    at_red {s} w = rw (at_home s w.0) (cond_t (Some s) None ((red_tests σ s).1 w.1))

    pub red_none : red_at p σ.signals u ≡ None → NoSuch (RedAt p σ u)
    red_none e s w = never (cc (at_red w))

  -- the way out, and the wrong leg
  pub next_way : WellFormed p σ → (u : ℕ) → Next p σ u (way_out p σ.lies u)
  unfolding way_out
  next_way W u = elim (W.lie u) [
    | inl z ↦ inl (z, ap (out (track_of p u)) (sym (reverse_false σ u z)))
    | inr z ↦ inr (z, ap (out (track_of p u)) (sym (reverse_true σ u z)))
  ]

  pub way_next : (u v : ℕ) → Next p σ u v → way_out p σ.lies u ≡ v
  unfolding way_out
  way_next u v (inl w) = ap (out (track_of p u)) (reverse_false σ u w.0) ∙ w.1
  way_next u v (inr w) = ap (out (track_of p u)) (reverse_true σ u w.0) ∙ w.1

  through_says : WellFormed p σ → (u v : ℕ) → Is (runs_through p σ.lies u v) → RunsThrough p σ u v
  unfolding runs_through
  through_says W u v e =
      let d = eqb-false _ _ (not_t _ (and_r (legged (track_of p v)) (not (eqb (leg (track_of p v) (is_reverse σ.lies v)) u)) e)) in (
        (legged_is (track_of p v)).0 (and_l (legged (track_of p v)) (not (eqb (leg (track_of p v) (is_reverse σ.lies v)) u)) e),
        elim (W.lie v) [
          | inl z ↦ inl (z, λ q. d (ap (leg (track_of p v)) (reverse_false σ v z) ∙ q))
          | inr z ↦ inr (z, λ q. d (ap (leg (track_of p v)) (reverse_true σ v z) ∙ q))
        ],
      )

  through_hears : (u v : ℕ) → RunsThrough p σ u v → Is (runs_through p σ.lies u v)
  unfolding runs_through
  through_hears u v w = and_i _ _ ((legged_is (track_of p v)).1 w.0) (not_i _ (ne_eqb _ _ (other w.1)))
    where
      other : ((lie_at σ v ≡ normal_lie) × (leg (track_of p v) false ≢ u)) ⊎ ((lie_at σ v ≡ reverse_lie) × (leg (track_of p v) true ≢ u)) → leg (track_of p v) (is_reverse σ.lies v) ≢ u
      other (inl s) q = s.1 (ap (leg (track_of p v)) (sym (reverse_false σ v s.0)) ∙ q)
      other (inr s) q = s.1 (ap (leg (track_of p v)) (sym (reverse_true σ v s.0)) ∙ q)

  pub through_tests : WellFormed p σ → (u v : ℕ) → Is (runs_through p σ.lies u v) ↔ RunsThrough p σ u v
  through_tests W u v = (through_says W u v, through_hears u v)
