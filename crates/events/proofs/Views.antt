-- What the state shows after each answer, cell by cell.
use mathlib.Core.Path.{◌≡◌, refl, sym, ap, ◌∙◌}
use mathlib.Core.Bool.{Bool, true, false, cond}
use mathlib.Core.Logic.{◌≢◌, ◌⊎◌, inl, inr}
use mathlib.Core.List.{List}
use Prim.Native.Nat.{ℕ, zero, suc, ◌<◌, ◌≤◌}
use native.Mathlib.Omega.{arith}
use lib.ListN.{length, get_or}
use lib.Dec.{eqb}
use borrow.Author.Tests.{eq-eqb, ne_eqb}
use Rattle.laws.specs.Tests.{Is, split, clash, below?, same?, cond_t, cond_f, fails}
use Rattle.laws.specs.Lists.{has, has_in, in_has}
use Rattle.laws.specs.Tables.{tab, get_or_tab, length_tab}
use Rattle.laws.specs.Sets.{member, excluding, member_excluding, member_excluding_other, excluding_le}
use Rattle.plan.specs.Limits.{most_tracks, most_signals}
use Rattle.plan.specs.Records.{Plan, route_of}
use Rattle.plan.specs.Layout.{StandsAt, stands_at}
use Rattle.plan.specs.Routes.{Listed, Releases, releases, listed}
use Rattle.plan.specs.File.{Readable}
use Rattle.plan.proofs.Says.{stands_is, listed_is, releases_is}
use Rattle.state.specs.declared.State.{State}
use Rattle.state.specs.Holds.{adding}
use Rattle.state.specs.State.{no_train, red, green_for, train_at, lie_at, held_by, shown_at, WellFormed}
use Rattle.state.proofs.Holds.{only_empty, member_adding, member_adding_other}
use Rattle.state.proofs.Formed.{get_or_beyond}
use Rattle.events.specs.declared.Refusal.{Refusal}
use Rattle.events.specs.declared.Deed.TheVariants.{Granted, Cancelled, Entered, Moved, Left}
use Rattle.events.specs.declared.Answer.TheVariants.{Refused}
use Rattle.events.specs.Answers.{deed_arrives, deed_leaves}
use Rattle.events.specs.Decide.{lie_after}
use Rattle.events.specs.After.{stood, gone, new_trains, new_lies, taken, dropped, dropped_all, arrived, route_holds, given_back, new_holds, shown, reddened, route_signals, red_behind, new_signals, after_deed, after}
use Rattle.events.specs.Meaning.{AfterGrant, AfterCancel, AfterEntry, AfterMove, AfterLeaving}
use Rattle.events.proofs.Facts.{few_tracks_lem, few_signals, few_routes, start_below, listed_below}
use Rattle.events.proofs.Cases.{releases_below}

-- A table shows its function everywhere, if that is nothing past the table's end.
cell : (n : ℕ) (g : ℕ → ℕ) (i : ℕ) → (n ≤ i → g i ≡ 0) → get_or (tab n g) i 0 ≡ g i
cell n g i h = elim (below? i n) [
  | inl k ↦ get_or_tab n g i 0 k
  | inr k ↦ get_or_beyond (tab n g) i (rw (length_tab n g) k) ∙ sym (h k)
]

-- Holds dropped of several routes.

-- a route that f doesn't name is there as before
member_kept : (n : ℕ) (f : ℕ → Bool) (set k : ℕ) → (k < n → f k ≡ false) → member (dropped_all n f set) k ≡ member set k
unfolding dropped_all
member_kept zero f set k h = refl
member_kept (suc n) f set k h = go (same? k n) (f n) refl (member_kept n f set k (λ b. h (omega arith)))
  where
    go : (k ≡ n) ⊎ (k ≢ n) → (b : Bool) → f n ≡ b → member (dropped_all n f set) k ≡ member set k
        → member (cond b (excluding (dropped_all n f set) n) (dropped_all n f set)) k ≡ member set k
    go (inl q) true z ih = clash (rw q z) (h (omega arith))
    go (inr q) true z ih = member_excluding_other (dropped_all n f set) n k q ∙ ih
    go q false z ih = ih

dropped_all_le : (n : ℕ) (f : ℕ → Bool) (set : ℕ) → dropped_all n f set ≤ set
unfolding dropped_all
dropped_all_le zero f set = omega arith
dropped_all_le (suc n) f set = go (f n) (dropped_all_le n f set)
  where
    go : (b : Bool) → dropped_all n f set ≤ set → cond b (excluding (dropped_all n f set) n) (dropped_all n f set) ≤ set
    go true h = let e = excluding_le (dropped_all n f set) n in omega arith
    go false h = h

-- a route that f names is not there
member_dropped : (n : ℕ) (f : ℕ → Bool) (set k : ℕ) → k < n → Is (f k) → member (dropped_all n f set) k ≡ false
unfolding dropped_all
member_dropped zero f set k h e = absurd (omega arith)
member_dropped (suc n) f set k h e = go (same? k n) (f n) refl (member_dropped n f set k)
  where
    go : (k ≡ n) ⊎ (k ≢ n) → (b : Bool) → f n ≡ b → (k < n → Is (f k) → member (dropped_all n f set) k ≡ false)
        → member (cond b (excluding (dropped_all n f set) n) (dropped_all n f set)) k ≡ false
    go (inl q) true z ih = rw q (member_excluding (dropped_all n f set) n)
    go (inl q) false z ih = clash e (rw q z)
    go (inr q) true z ih = member_excluding_other (dropped_all n f set) n k q ∙ ih (omega arith) e
    go (inr q) false z ih = ih (omega arith) e

module _ (p : Plan) (R : Readable p) (σ : State) (W : WellFormed p σ) where
  -- beyond the plan nothing is held
  none_held : (q : ℕ) → length p.tracks ≤ q → get_or σ.holds q 0 ≡ 0
  unfolding held_by
  none_held q h = only_empty (get_or σ.holds q 0) (λ k. fails (member (get_or σ.holds q 0) k) (W.holds_end k q h))

  -- A request granted.
  module _ (r : ℕ) (k : r < length p.routes) where
    unlisted : (q : ℕ) → (Listed p r q → ⊥) → (has q (route_of p r).reverse ≡ false) × (has q (route_of p r).normal ≡ false)
    unlisted q n = (
      fails (has q (route_of p r).reverse) (λ e. n (inr (has_in q (route_of p r).reverse e))),
      fails (has q (route_of p r).normal) (λ e. n (inl (has_in q (route_of p r).normal e))),
    )

    far : (q : ℕ) → most_tracks ≤ q → Listed p r q → ⊥
    far q h m = let a = listed_below p R r k q m in let b = few_tracks_lem p R in omega arith

    lie_kept : (q : ℕ) → (Listed p r q → ⊥) → lie_after (route_of p r).normal (route_of p r).reverse σ.lies q ≡ lie_at σ q
    unfolding lie_after lie_at
    lie_kept q n = let w = unlisted q n in cond_f _ _ w.0 ∙ cond_f _ _ w.1

    grant_lie : (q : ℕ) → lie_at (after_deed p σ (Granted r)) q ≡ lie_after (route_of p r).normal (route_of p r).reverse σ.lies q
    unfolding after_deed new_lies lie_at
    grant_lie q = cell most_tracks (lie_after (route_of p r).normal (route_of p r).reverse σ.lies) q
        (λ h. lie_kept q (far q h) ∙ W.lies_end q (let b = few_tracks_lem p R in omega arith))

    grant_holds : (q : ℕ) → get_or (after_deed p σ (Granted r)).holds q 0 ≡ taken r (route_of p r).normal (route_of p r).reverse σ.holds q
    unfolding after_deed new_holds given_back deed_arrives route_holds taken
    grant_holds q = cell most_tracks (taken r (route_of p r).normal (route_of p r).reverse σ.holds) q
        (λ h. cond_f _ _ (fails (listed (route_of p r).normal (route_of p r).reverse q) (λ e. far q h ((listed_is p r q).0 e)))
        ∙ none_held q (let b = few_tracks_lem p R in omega arith))

    grant_taken : (q : ℕ) → Listed p r q → get_or (after_deed p σ (Granted r)).holds q 0 ≡ adding (get_or σ.holds q 0) r
    unfolding taken
    grant_taken q m = grant_holds q ∙ cond_t _ _ ((listed_is p r q).1 m)

    grant_same : (q : ℕ) → (Listed p r q → ⊥) → get_or (after_deed p σ (Granted r)).holds q 0 ≡ get_or σ.holds q 0
    unfolding taken
    grant_same q n =
        grant_holds q ∙ cond_f _ _ (fails (listed (route_of p r).normal (route_of p r).reverse q) (λ e. n ((listed_is p r q).0 e)))

    start_few : (route_of p r).start < most_signals
    start_few = let a = start_below p R r k in let b = few_signals p R in omega arith

    -- a signal that the route's request or cancel sets
    set_signal : (colour s : ℕ) → get_or (tab most_signals (shown (route_of p r).start colour σ.signals)) s 0 ≡ shown (route_of p r).start colour σ.signals s
    unfolding shown shown_at
    set_signal colour s = cell most_signals (shown (route_of p r).start colour σ.signals) s
        (λ h. cond_f _ _ (ne_eqb s (route_of p r).start (λ z. let a = start_few in omega arith))
        ∙ W.signals_end s (let b = few_signals p R in omega arith))

    shown_start : (colour : ℕ) → shown (route_of p r).start colour σ.signals (route_of p r).start ≡ colour
    unfolding shown
    shown_start colour = cond_t _ _ (eq-eqb (route_of p r).start (route_of p r).start refl)

    shown_other : (colour s : ℕ) → s ≢ (route_of p r).start → shown (route_of p r).start colour σ.signals s ≡ shown_at σ s
    unfolding shown shown_at
    shown_other colour s d = cond_f _ _ (ne_eqb s (route_of p r).start d)

    pub after_grant : AfterGrant p σ (after_deed p σ (Granted r)) r
    unfolding after_deed new_trains new_signals red_behind deed_leaves route_signals train_at shown_at held_by lie_after
    after_grant = record {
      trains = λ u. refl;
      reverse = λ q m. grant_lie q ∙ cond_t _ _ (in_has q (route_of p r).reverse m);
      normal = λ q m n. grant_lie q ∙ cond_f _ _ (fails (has q (route_of p r).reverse) (λ e. n (has_in q (route_of p r).reverse e))) ∙ cond_t _ _ (in_has q (route_of p r).normal m);
      other_lies = λ q n. grant_lie q ∙ lie_kept q n;
      holds = λ q m. ap (λ (set : ℕ). member set r) (grant_taken q m) ∙ member_adding (get_or σ.holds q 0) r (let b = few_routes p R in omega arith);
      other_holds = λ j q w. other j q w (split (listed (route_of p r).normal (route_of p r).reverse q));
      signal = set_signal (green_for r) (route_of p r).start ∙ shown_start (green_for r);
      other_signals = λ s d. set_signal (green_for r) s ∙ shown_other (green_for r) s d;
    }
      where
        other : (j q : ℕ) → (j ≢ r) ⊎ (Listed p r q → ⊥) → (listed (route_of p r).normal (route_of p r).reverse q ≡ true) ⊎ (listed (route_of p r).normal (route_of p r).reverse q ≡ false)
            → member (get_or (after_deed p σ (Granted r)).holds q 0) j ≡ member (get_or σ.holds q 0) j
        other j q (inl d) (inl m) =
            ap (λ (set : ℕ). member set j) (grant_taken q ((listed_is p r q).0 m)) ∙ member_adding_other (get_or σ.holds q 0) r j d
        other j q (inl d) (inr m) =
            ap (λ (set : ℕ). member set j) (grant_same q (λ l. clash ((listed_is p r q).1 l) m))
        other j q (inr n) m = ap (λ (set : ℕ). member set j) (grant_same q n)

    -- Cancelled.
    cancel_holds : (q : ℕ) → get_or (after_deed p σ (Cancelled r)).holds q 0 ≡ excluding (get_or σ.holds q 0) r
    unfolding after_deed new_holds given_back deed_arrives route_holds dropped
    cancel_holds q = cell most_tracks (dropped r σ.holds) q
        (λ h. let z = none_held q (let b = few_tracks_lem p R in omega arith) in let e = excluding_le (get_or σ.holds q 0) r in omega arith)

    pub after_cancel : AfterCancel p σ (after_deed p σ (Cancelled r)) r
    unfolding after_deed new_trains new_lies new_signals red_behind deed_leaves route_signals train_at lie_at shown_at held_by
    after_cancel = record {
      trains = λ u. refl;
      lies = λ q. refl;
      holds = λ q m. clash m (ap (λ (set : ℕ). member set r) (cancel_holds q) ∙ member_excluding (get_or σ.holds q 0) r);
      other_holds = λ j q d. ap (λ (set : ℕ). member set j) (cancel_holds q) ∙ member_excluding_other (get_or σ.holds q 0) r j d;
      signal = set_signal red (route_of p r).start ∙ shown_start red;
      other_signals = λ s d. set_signal red s ∙ shown_other red s d;
    }

  -- A train that stands on a track, and one that is gone from a track.

  beyond : (x : ℕ) → most_tracks ≤ x → train_at σ x ≡ no_train
  beyond x h = W.trains_end x (let b = few_tracks_lem p R in omega arith)

  module _ (train v : ℕ) (h : v < length p.tracks) where
    stood_cell : (x : ℕ) → get_or (tab most_tracks (stood train v σ.trains)) x 0 ≡ stood train v σ.trains x
    unfolding stood train_at
    stood_cell x = cell most_tracks (stood train v σ.trains) x
        (λ f. cond_f _ _ (ne_eqb x v (λ z. let b = few_tracks_lem p R in omega arith)) ∙ beyond x f)

    stood_here : get_or (tab most_tracks (stood train v σ.trains)) v 0 ≡ train
    unfolding stood
    stood_here = stood_cell v ∙ cond_t _ _ (eq-eqb v v refl)

    stood_other : (x : ℕ) → x ≢ v → get_or (tab most_tracks (stood train v σ.trains)) x 0 ≡ train_at σ x
    unfolding stood train_at
    stood_other x d = stood_cell x ∙ cond_f _ _ (ne_eqb x v d)

  module _ (u : ℕ) (trains : List ℕ) (end : (x : ℕ) → most_tracks ≤ x → get_or trains x 0 ≡ 0) where
    gone_cell : (x : ℕ) → get_or (tab most_tracks (gone u trains)) x 0 ≡ gone u trains x
    unfolding gone
    gone_cell x = cell most_tracks (gone u trains) x (λ f. go (eqb x u) (end x f))
      where
        go : (b : Bool) → get_or trains x 0 ≡ 0 → cond b 0 (get_or trains x 0) ≡ 0
        go true e = refl
        go false e = e

    gone_here : get_or (tab most_tracks (gone u trains)) u 0 ≡ no_train
    unfolding gone
    gone_here = gone_cell u ∙ cond_t _ _ (eq-eqb u u refl)

    gone_other : (x : ℕ) → x ≢ u → get_or (tab most_tracks (gone u trains)) x 0 ≡ get_or trains x 0
    unfolding gone
    gone_other x d = gone_cell x ∙ cond_f _ _ (ne_eqb x u d)

  -- the signal on the track left
  module _ (u : ℕ) where
    red_cell : (s : ℕ) → get_or (tab most_signals (reddened p u σ.signals)) s 0 ≡ reddened p u σ.signals s
    unfolding reddened shown_at
    red_cell s = cell most_signals (reddened p u σ.signals) s (λ f. go (stands_at p u s) (W.signals_end s (let b = few_signals p R in omega arith)))
      where
        go : (b : Bool) → get_or σ.signals s 0 ≡ 0 → cond b 0 (get_or σ.signals s 0) ≡ 0
        go true e = refl
        go false e = e

    red_here : (s : ℕ) → StandsAt p u s → get_or (tab most_signals (reddened p u σ.signals)) s 0 ≡ red
    unfolding reddened
    red_here s w = red_cell s ∙ cond_t _ _ ((stands_is p u s).1 w)

    red_other : (s : ℕ) → (StandsAt p u s → ⊥) → get_or (tab most_signals (reddened p u σ.signals)) s 0 ≡ shown_at σ s
    unfolding reddened shown_at
    red_other s n = red_cell s ∙ cond_f _ _ (fails (stands_at p u s) (λ e. n ((stands_is p u s).0 e)))

  -- Entered.
  pub after_entry_lem : (train u : ℕ) → u < length p.tracks → AfterEntry σ (after_deed p σ (Entered train u)) train u
  unfolding after_deed new_trains new_lies new_holds given_back deed_arrives route_holds new_signals red_behind deed_leaves route_signals train_at lie_at held_by shown_at
  after_entry_lem train u h = record {
    stands = stood_here train u h;
    other_trains = λ x d. stood_other train u h x d;
    lies = λ q. refl;
    holds = λ k q. refl;
    signals = λ s. refl;
  }

  -- Moved.
  module _ (v : ℕ) where
    move_holds : (q : ℕ) → get_or (tab most_tracks (arrived p v σ.holds)) q 0 ≡ arrived p v σ.holds q
    unfolding arrived
    move_holds q = cell most_tracks (arrived p v σ.holds) q
        (λ f. let z = none_held q (let b = few_tracks_lem p R in omega arith) in
        let e = dropped_all_le (length p.routes) (λ r. releases p r v q) (get_or σ.holds q 0) in omega arith)

    released : (k q : ℕ) → Releases p k v q → member (get_or (tab most_tracks (arrived p v σ.holds)) q 0) k ≡ false
    unfolding arrived
    released k q w =
        ap (λ (set : ℕ). member set k) (move_holds q)
        ∙ member_dropped (length p.routes) (λ r. releases p r v q) (get_or σ.holds q 0) k (releases_below p k v q w) ((releases_is p k v q).1 w)

    kept : (k q : ℕ) → (Releases p k v q → ⊥) → member (get_or (tab most_tracks (arrived p v σ.holds)) q 0) k ≡ member (get_or σ.holds q 0) k
    unfolding arrived
    kept k q n =
        ap (λ (set : ℕ). member set k) (move_holds q)
        ∙ member_kept (length p.routes) (λ r. releases p r v q) (get_or σ.holds q 0) k (λ h. fails (releases p k v q) (λ e. n ((releases_is p k v q).0 e)))

  pub after_move : (train u v : ℕ) → v < length p.tracks → u ≢ v → AfterMove p σ (after_deed p σ (Moved train u v)) train u v
  unfolding after_deed new_trains new_lies new_holds given_back deed_arrives route_holds new_signals red_behind deed_leaves route_signals train_at lie_at held_by shown_at
  after_move train u v h d = record {
    stands = gone_other u front end v (λ z. d (sym z)) ∙ stood_here train v h;
    behind = gone_here u front end;
    other_trains = λ x a b. gone_other u front end x a ∙ stood_other train v h x b;
    lies = λ q. refl;
    holds = λ k q w m. clash m (released v k q w);
    other_holds = λ k q n. kept v k q n;
    signal = λ s w. red_here u s w;
    other_signals = λ s n. red_other u s n;
  }
    where
      front : List ℕ
      front = tab most_tracks (stood train v σ.trains)

      end : (x : ℕ) → most_tracks ≤ x → get_or front x 0 ≡ 0
      end x f = get_or_beyond front x (rw (length_tab most_tracks (stood train v σ.trains)) f)

  -- Left.
  pub after_leaving : (train u : ℕ) → AfterLeaving p σ (after_deed p σ (Left train u)) u
  unfolding after_deed new_trains new_lies new_holds given_back deed_arrives route_holds new_signals red_behind deed_leaves route_signals train_at lie_at held_by shown_at
  after_leaving train u = record {
    behind = gone_here u σ.trains beyond;
    other_trains = λ x d. gone_other u σ.trains beyond x d;
    lies = λ q. refl;
    holds = λ k q. refl;
    signal = λ s w. red_here u s w;
    other_signals = λ s n. red_other u s n;
  }

-- A refusal leaves the state as it was.
pub after_refusal : (p : Plan) (σ : State) (refusal : Refusal) → after p σ (Refused refusal) ≡ σ
unfolding after
after_refusal p σ refusal = refl
