-- The test of a well-formed state is true exactly when the document's sentences hold.
use mathlib.Core.Path.{◌≡◌, refl, sym, ap, ◌∙◌}
use mathlib.Core.Bool.{Bool, true, false, not, ◌&&◌}
use mathlib.Core.Logic.{◌≢◌, ◌⊎◌, inl, inr}
use mathlib.Core.List.{List, [], ◌∷◌}
use Prim.Native.Nat.{ℕ, zero, suc, ◌+◌, ◌<◌, ◌≤◌, ◌-◌}
use native.Mathlib.Omega.{arith}
use lib.ListN.{length, get_or, drop, length-drop, replicate, length-replicate, get_or-replicate}
use lib.Seq.{get_or-drop}
use lib.Dec.{eqb, ltb}
use borrow.Author.Tests.{eqb-true, eq-eqb, ne_eqb, lt-ltb, ltb-true}
use Rattle.laws.specs.Tests.{Is, split, clash, below?, same?, and_l, and_r, and_i, or_e, or_l, or_r, not_t, not_f, not_i}
use Rattle.laws.specs.Lists.{has, has_in, in_has, all_of, all_of_at, all_of_all, empty_from}
use Rattle.laws.specs.Search.{all_below_at, all_below_all}
use Rattle.laws.specs.Sets.{member, member_empty}
use Rattle.plan.specs.Limits.{most_tracks, most_signals}
use Rattle.plan.specs.Kinds.{is_point}
use Rattle.plan.specs.Records.{Plan, route_of}
use Rattle.state.specs.declared.State.{State}
use Rattle.state.specs.Holds.{empty, within}
use Rattle.state.specs.State.{normal_lie, reverse_lie, green_for, train_at, lie_at, held_by, shown_at, fresh, again, once, point_or, points_only, green_names, named_at, greens_name, lies_known, well_formed, WellFormed}
use Rattle.state.proofs.Holds.{within_beyond, beyond_within, only_empty, member_some}

-- Past the end of a list there is nothing.
pub get_or_beyond : (l : List ℕ) (i : ℕ) → length l ≤ i → get_or l i 0 ≡ 0
get_or_beyond [] i h = refl
get_or_beyond (a ∷ l) zero h = absurd (omega arith)
get_or_beyond (a ∷ l) (suc i) h = get_or_beyond l i (omega arith)

-- No train twice.

once_apart : (l : List ℕ) → Is (once l) → (u v : ℕ) → u < v → get_or l u 0 ≢ 0 → get_or l u 0 ≢ get_or l v 0
unfolding once again
once_apart l e u v h k q = elim (below? v (length l)) [
  | inl b ↦ (let w = not_t _ (all_below_at (length l) (λ u. not (again l u)) e u (omega arith)) in
      let z : u + 1 + (v - (u + 1)) ≡ v = omega arith in
      let m = in_has (get_or l u 0) (drop (u + 1) l) (v - (u + 1), rw (length-drop (u + 1) l) (omega arith), get_or-drop (u + 1) l (v - (u + 1)) 0 ∙ ap (λ (j : ℕ). get_or l j 0) z ∙ sym q) in
      clash (and_i _ _ (not_i _ (ne_eqb (get_or l u 0) 0 k)) m) w)
  | inr b ↦ k (q ∙ get_or_beyond l v b)
]

apart_once : (l : List ℕ) → ((u v : ℕ) → u < v → get_or l u 0 ≢ 0 → get_or l u 0 ≢ get_or l v 0) → Is (once l)
unfolding once again
apart_once l h = all_below_all (length l) (λ u. not (again l u)) (λ u b. not_i _ (apart u))
  where
    apart : (u : ℕ) → (not (eqb (get_or l u 0) 0) && has (get_or l u 0) (drop (u + 1) l)) ≡ false
    apart u = elim (same? (get_or l u 0) 0) [
      | inl z ↦ rw (eq-eqb (get_or l u 0) 0 z)
      | inr z ↦ (elim (split (has (get_or l u 0) (drop (u + 1) l))) [
        | inl m ↦ (let w = has_in (get_or l u 0) (drop (u + 1) l) m in absurd (h u (u + 1 + w.0) (omega arith) z (sym (sym (get_or-drop (u + 1) l w.0 0) ∙ w.2))))
        | inr m ↦ rw (ne_eqb (get_or l u 0) 0 z, m)
      ])
    ]

-- Nothing from a count on.

pub empty_from_at : (n : ℕ) (l : List ℕ) → Is (empty_from n l) → (i : ℕ) → n ≤ i → get_or l i 0 ≡ 0
unfolding empty_from
empty_from_at n l e i h = elim (below? i (length l)) [
  | inl b ↦ (let k : i - n < length (drop n l) = rw (length-drop n l) (omega arith) in
      let z : n + (i - n) ≡ i = omega arith in
      ap (λ (j : ℕ). get_or l j 0) (sym z) ∙ sym (get_or-drop n l (i - n) 0) ∙ eqb-true _ 0 (all_of_at (λ x. eqb x 0) (drop n l) (i - n) 0 e k))
  | inr b ↦ get_or_beyond l i b
]

at_empty_from : (n : ℕ) (l : List ℕ) → ((i : ℕ) → n ≤ i → get_or l i 0 ≡ 0) → Is (empty_from n l)
unfolding empty_from
at_empty_from n l h = all_of_all (λ x. eqb x 0) (drop n l) 0 (λ i k. eq-eqb _ 0 (get_or-drop n l i 0 ∙ h (n + i) (omega arith)))

-- What holds of every element holds of every cell, where it holds of the empty one.
all_of_cell : (f : ℕ → Bool) (l : List ℕ) → Is (f 0) → Is (all_of f l) → (i : ℕ) → Is (f (get_or l i 0))
all_of_cell f l z e i = elim (below? i (length l)) [ inl b ↦ all_of_at f l i 0 e b | inr b ↦ rw (get_or_beyond l i b) z ]

-- Only points are held or reverse.

module _ (p : Plan) (lies holds : List ℕ) where
  abbrev unused : ℕ → Bool
  unused u = eqb (get_or lies u 0) 0 && eqb (get_or holds u 0) 0

  points_at : Is (points_only p lies holds) → (u : ℕ) → u < length p.tracks → Is (is_point p.tracks u) ⊎ ((get_or lies u 0 ≡ 0) × (get_or holds u 0 ≡ 0))
  unfolding points_only point_or empty
  points_at e u h = elim (or_e (unused u) (is_point p.tracks u) (all_below_at (length p.tracks) (point_or p lies holds) e u h)) [
    | inl w ↦ inr (eqb-true _ 0 (and_l (eqb (get_or lies u 0) 0) (eqb (get_or holds u 0) 0) w), eqb-true _ 0 (and_r (eqb (get_or lies u 0) 0) (eqb (get_or holds u 0) 0) w))
    | inr w ↦ inl w
  ]

  at_points : ((u : ℕ) → Is (is_point p.tracks u) ⊎ ((get_or lies u 0 ≡ 0) × (get_or holds u 0 ≡ 0))) → Is (points_only p lies holds)
  unfolding points_only point_or empty
  at_points h = all_below_all (length p.tracks) (point_or p lies holds) (λ u k. elim (h u) [
    | inl w ↦ or_r (unused u) (is_point p.tracks u) w
    | inr w ↦ or_l (unused u) (is_point p.tracks u) (and_i _ _ (eq-eqb _ 0 w.0) (eq-eqb _ 0 w.1))
  ])

-- A green names a route that starts there.

names_at : (p : Plan) (s c : ℕ) → Is (green_names p s c) → (r : ℕ) → c ≡ green_for r → (r < length p.routes) × ((route_of p r).start ≡ s)
unfolding green_names
names_at p s zero e r z = absurd (omega arith)
names_at p s (suc k) e r z =
    let q : k ≡ r = omega arith in
    let w = rw q at e in (
      ltb-true r (length p.routes) (and_l (ltb r (length p.routes)) (eqb (route_of p r).start s) w),
      eqb-true (route_of p r).start s (and_r (ltb r (length p.routes)) (eqb (route_of p r).start s) w),
    )

at_names : (p : Plan) (s c : ℕ) → ((r : ℕ) → c ≡ green_for r → (r < length p.routes) × ((route_of p r).start ≡ s)) → Is (green_names p s c)
unfolding green_names
at_names p s zero h = refl
at_names p s (suc k) h = let w = h k refl in and_i _ _ (lt-ltb _ _ w.0) (eq-eqb _ _ w.1)

-- A lie is one of two.
lie_two : (n : ℕ) → Is (ltb n 2) → (n ≡ normal_lie) ⊎ (n ≡ reverse_lie)
lie_two n e = let h = ltb-true n 2 e in elim (same? n 0) [ inl z ↦ inl z | inr z ↦ inr (omega arith) ]

two_lie : (n : ℕ) → (n ≡ normal_lie) ⊎ (n ≡ reverse_lie) → Is (ltb n 2)
two_lie n (inl z) = lt-ltb n 2 (omega arith)
two_lie n (inr z) = lt-ltb n 2 (omega arith)

-- The nine tests together.
pub record Tests (p : Plan) (σ : State) : Type 0 where
  trains : Is (once σ.trains)
  trains_end : Is (empty_from (length p.tracks) σ.trains)
  lies_end : Is (empty_from (length p.tracks) σ.lies)
  holds_end : Is (empty_from (length p.tracks) σ.holds)
  signals_end : Is (empty_from (length p.signals) σ.signals)
  routes_end : Is (all_of (within (length p.routes)) σ.holds)
  points : Is (points_only p σ.lies σ.holds)
  greens : Is (greens_name p σ.signals)
  lies : Is (lies_known σ.lies)

tests : (p : Plan) (σ : State) → Is (well_formed p σ) → Tests p σ
unfolding well_formed
tests p σ e9 =
    let t1 = once σ.trains in
    let t2 = t1 && empty_from (length p.tracks) σ.trains in
    let t3 = t2 && empty_from (length p.tracks) σ.lies in
    let t4 = t3 && empty_from (length p.tracks) σ.holds in
    let t5 = t4 && empty_from (length p.signals) σ.signals in
    let t6 = t5 && all_of (within (length p.routes)) σ.holds in
    let t7 = t6 && points_only p σ.lies σ.holds in
    let t8 = t7 && greens_name p σ.signals in
    let e8 = and_l t8 (lies_known σ.lies) e9 in
    let e7 = and_l t7 (greens_name p σ.signals) e8 in
    let e6 = and_l t6 (points_only p σ.lies σ.holds) e7 in
    let e5 = and_l t5 (all_of (within (length p.routes)) σ.holds) e6 in
    let e4 = and_l t4 (empty_from (length p.signals) σ.signals) e5 in
    let e3 = and_l t3 (empty_from (length p.tracks) σ.holds) e4 in
    let e2 = and_l t2 (empty_from (length p.tracks) σ.lies) e3 in
    record {
      trains = and_l t1 (empty_from (length p.tracks) σ.trains) e2;
      trains_end = and_r t1 (empty_from (length p.tracks) σ.trains) e2;
      lies_end = and_r t2 (empty_from (length p.tracks) σ.lies) e3;
      holds_end = and_r t3 (empty_from (length p.tracks) σ.holds) e4;
      signals_end = and_r t4 (empty_from (length p.signals) σ.signals) e5;
      routes_end = and_r t5 (all_of (within (length p.routes)) σ.holds) e6;
      points = and_r t6 (points_only p σ.lies σ.holds) e7;
      greens = and_r t7 (greens_name p σ.signals) e8;
      lies = and_r t8 (lies_known σ.lies) e9;
    }

of_tests : (p : Plan) (σ : State) → Tests p σ → Is (well_formed p σ)
unfolding well_formed
of_tests p σ t =
    rw (t.trains, t.trains_end, t.lies_end, t.holds_end, t.signals_end, t.routes_end, t.points, t.greens, t.lies)

-- The sentences of a state that passes.
pub formed : (p : Plan) (σ : State) → Is (well_formed p σ) → WellFormed p σ
unfolding train_at lie_at held_by shown_at greens_name named_at lies_known
formed p σ e =
    let t = tests p σ e in
    record {
      once = twice (once_apart σ.trains t.trains);
      trains_end = empty_from_at (length p.tracks) σ.trains t.trains_end;
      lies_end = empty_from_at (length p.tracks) σ.lies t.lies_end;
      holds_end = λ r q h m. member_some _ r m (empty_from_at (length p.tracks) σ.holds t.holds_end q h);
      signals_end = empty_from_at (length p.signals) σ.signals t.signals_end;
      routes_end = λ r q h m. clash m (within_beyond (length p.routes) _ (all_of_cell (within (length p.routes)) σ.holds (beyond_within _ 0 (λ k l. member_empty k)) t.routes_end q) r h);
      held_point = λ r q m. held t q (member_some _ r m);
      reverse_point = λ q z. turned t q (λ n. absurd (omega arith));
      green = λ s r z. green t s r z (below? s (length p.signals));
      lie = λ q. lie_two _ (all_of_cell (λ lie. ltb lie 2) σ.lies refl t.lies q);
    }
  where
    twice : ((u v : ℕ) → u < v → get_or σ.trains u 0 ≢ 0 → get_or σ.trains u 0 ≢ get_or σ.trains v 0) → (u v : ℕ) → get_or σ.trains u 0 ≢ 0 → get_or σ.trains u 0 ≡ get_or σ.trains v 0 → u ≡ v
    twice h u v k q = elim (below? u v) [
      | inl b ↦ absurd (h u v b k q)
      | inr b ↦ (elim (below? v u) [ inl c ↦ absurd (h v u c (λ z. k (q ∙ z)) (sym q)) | inr c ↦ omega arith ])
    ]

    held : Tests p σ → (q : ℕ) → get_or σ.holds q 0 ≢ 0 → Is (is_point p.tracks q)
    held t q n = elim (below? q (length p.tracks)) [
      | inl b ↦ (elim (points_at p σ.lies σ.holds t.points q b) [ inl w ↦ w | inr w ↦ absurd (n w.1) ])
      | inr b ↦ absurd (n (empty_from_at (length p.tracks) σ.holds t.holds_end q b))
    ]

    turned : Tests p σ → (q : ℕ) → get_or σ.lies q 0 ≢ 0 → Is (is_point p.tracks q)
    turned t q n = elim (below? q (length p.tracks)) [
      | inl b ↦ (elim (points_at p σ.lies σ.holds t.points q b) [ inl w ↦ w | inr w ↦ absurd (n w.0) ])
      | inr b ↦ absurd (n (empty_from_at (length p.tracks) σ.lies t.lies_end q b))
    ]

    green : Tests p σ → (s r : ℕ) → get_or σ.signals s 0 ≡ green_for r → (s < length p.signals) ⊎ (length p.signals ≤ s) → (r < length p.routes) × ((route_of p r).start ≡ s)
    green t s r z (inl b) = names_at p s _ (all_below_at (length p.signals) (named_at p σ.signals) t.greens s b) r z
    green t s r z (inr b) = let n = empty_from_at (length p.signals) σ.signals t.signals_end s b in absurd (omega arith)

-- A state for which the sentences hold passes.
pub passes : (p : Plan) (σ : State) → WellFormed p σ → Is (well_formed p σ)
unfolding train_at lie_at held_by shown_at greens_name named_at lies_known
passes p σ w = of_tests p σ (record {
  trains = apart_once σ.trains (λ u v h k q. let z = w.once u v k q in absurd (omega arith));
  trains_end = at_empty_from (length p.tracks) σ.trains w.trains_end;
  lies_end = at_empty_from (length p.tracks) σ.lies w.lies_end;
  holds_end = at_empty_from (length p.tracks) σ.holds (λ q h. only_empty _ (λ r. none (member (get_or σ.holds q 0) r) (w.holds_end r q h)));
  signals_end = at_empty_from (length p.signals) σ.signals w.signals_end;
  routes_end = all_of_all (within (length p.routes)) σ.holds 0 (λ q h. beyond_within _ _ (λ r k. none (member (get_or σ.holds q 0) r) (w.routes_end r q k)));
  points = at_points p σ.lies σ.holds (λ u. point u (split (is_point p.tracks u)));
  greens = all_below_all (length p.signals) (named_at p σ.signals) (λ s h. at_names p s (get_or σ.signals s 0) (w.green s));
  lies = all_of_all (λ lie. ltb lie 2) σ.lies 0 (λ q h. two_lie _ (w.lie q));
})
  where
    none : (b : Bool) → (Is b → ⊥) → b ≡ false
    none true h = absurd (h refl)
    none false h = refl

    point : (u : ℕ) → (is_point p.tracks u ≡ true) ⊎ (is_point p.tracks u ≡ false) → Is (is_point p.tracks u) ⊎ ((get_or σ.lies u 0 ≡ 0) × (get_or σ.holds u 0 ≡ 0))
    point u (inl y) = inl y
    point u (inr n) = inr (
      elim (w.lie u) [ inl z ↦ z | inr z ↦ clash (w.reverse_point u z) n ],
      only_empty _ (λ r. none (member (get_or σ.holds u 0) r) (λ m. clash (w.held_point r u m) n)),
    )

-- The fresh state is well formed.

empty_cell : (n i : ℕ) → get_or {A = ℕ} (replicate n 0) i 0 ≡ 0
empty_cell n i = elim (below? i n) [
  | inl h ↦ get_or-replicate n i 0 0 h
  | inr h ↦ get_or_beyond (replicate n 0) i (rw (length-replicate {A = ℕ} n 0) h)
]

pub fresh_formed : (p : Plan) → WellFormed p fresh
unfolding fresh train_at lie_at held_by shown_at
fresh_formed p = record {
  once = λ u v h e. absurd (h (empty_cell most_tracks u));
  trains_end = λ u h. empty_cell most_tracks u;
  lies_end = λ q h. empty_cell most_tracks q;
  holds_end = λ r q h m. none r q m;
  signals_end = λ s h. empty_cell most_signals s;
  routes_end = λ r q h m. none r q m;
  held_point = λ r q m. absurd (none r q m);
  reverse_point = λ q z. let e = empty_cell most_tracks q in absurd (omega arith);
  green = λ s r z. let e = empty_cell most_signals s in absurd (omega arith);
  lie = λ q. inl (empty_cell most_tracks q);
}
  where
    none : (r q : ℕ) → Is (member (get_or (replicate most_tracks 0) q 0) r) → ⊥
    none r q m = member_some _ r m (empty_cell most_tracks q)

-- The code's way through the tests, where each is a branch of its own: the last answers for the rest.
passed : (f : ℕ → Bool) {k n : ℕ} {r : Bool} → k ≡ n → r ≡ f k → not r ≡ false → Is (f n)
passed f q e x = rw (← q, ← e) (not_f _ x)

module _ (p : Plan) (σ : State) where
  pub last_lies : {a b c d f g h i r : Bool} {k l m : ℕ} → k ≡ length p.tracks → l ≡ length p.signals → m ≡ length p.routes
      → a ≡ once σ.trains → not a ≡ false → b ≡ empty_from k σ.trains → not b ≡ false → c ≡ empty_from k σ.lies → not c ≡ false
      → d ≡ empty_from k σ.holds → not d ≡ false → f ≡ empty_from l σ.signals → not f ≡ false → g ≡ all_of (within m) σ.holds → not g ≡ false
      → h ≡ points_only p σ.lies σ.holds → not h ≡ false → i ≡ greens_name p σ.signals → not i ≡ false → r ≡ lies_known σ.lies → r ≡ well_formed p σ
  unfolding well_formed
  last_lies kt ks kr ea na eb nb ec nc ed nd ef nf eg ng eh nh ei ni er =
      let pa = sym ea ∙ not_f _ na in
      let pb = passed (λ k. empty_from k σ.trains) kt eb nb in
      let pc = passed (λ k. empty_from k σ.lies) kt ec nc in
      let pd = passed (λ k. empty_from k σ.holds) kt ed nd in
      let pf = passed (λ k. empty_from k σ.signals) ks ef nf in
      let pg = passed (λ k. all_of (within k) σ.holds) kr eg ng in
      let ph = sym eh ∙ not_f _ nh in
      let pi = sym ei ∙ not_f _ ni in
      er ∙ sym (rw (pa, pb, pc, pd, pf, pg, ph, pi))
