-- What the code comes to, in the words of the state after.
use mathlib.Core.Path.{◌≡◌, refl, ap, ◌∙◌}
use mathlib.Core.Bool.{Bool, true, false, cond, ◌&&◌, ◌||◌}
use mathlib.Core.Logic.{◌⊎◌, inl, inr}
use mathlib.Core.List.{List, [], ◌∷◌}
use Prim.Native.Nat.{ℕ, suc, ◌+◌, ◌<◌, ◌≤◌}
use native.Mathlib.Omega.{arith}
use native.Mathlib.Numerals.{add-one}
use lib.ListN.{length, get_or, set}
use lib.Dec.{eqb, ltb}
use borrow.Author.Tests.{eq-eqb, ne_eqb, lt-ltb, le-ltb}
use borrow.Rule.Slice.PartMut.{mid_of, put_mid, same_len_mid}
use Rattle.laws.specs.Lists.{any_of, has, joined}
use Rattle.laws.specs.Sets.{excluding}
use Rattle.laws.specs.Tables.{tab, length_tab, get_or_tab, tab_cong, tab_of}
use Rattle.plan.specs.declared.Release.{Release}
use Rattle.plan.specs.Limits.{most_tracks, most_signals}
use Rattle.plan.specs.Records.{Plan, home_of, route_of}
use Rattle.plan.specs.Layout.{stands_at}
use Rattle.plan.specs.Routes.{releases, listed}
use Rattle.plan.specs.File.{release_file, Readable}
use Rattle.state.specs.declared.State.{State}
use Rattle.state.specs.Holds.{adding}
use Rattle.state.specs.State.{state_of, no_train, normal_lie, reverse_lie, red}
use Rattle.state.specs.Cells.{trains_from, lies_from, signals_from, cells_size, part, trains_in, lies_in, signals_in, state_in}
use Rattle.state.proofs.Holds.{adding_adding}
use Rattle.state.proofs.Parts.{back}
use Rattle.events.specs.declared.Deed.{Deed}
use Rattle.events.specs.declared.Deed.TheVariants.{Granted, Cancelled, Entered, Moved, Left}
use Rattle.events.specs.declared.Answer.{Answer}
use Rattle.events.specs.declared.Answer.TheVariants.{Refused, Accident, Done}
use Rattle.events.specs.Answers.{deed_arrives, deed_leaves}
use Rattle.events.specs.Decide.{lie_after}
use Rattle.events.specs.After.{stood, gone, new_trains, new_lies, taken, dropped, dropped_all, arrived, route_holds, given_back, new_holds, shown, reddened, route_signals, red_behind, new_signals, after_deed, after, Acts}
use Rattle.act.specs.Cells.{turned, held, released, freed, Ready}
use Rattle.act.proofs.Walks.{written, up_to, done_length, done_next, done_set}

-- The walks, turn by turn.

pub drop_step : (r : ℕ) (m h : List ℕ) (q a : ℕ) → h ≡ tab (length m) (up_to q (dropped r m) m) → q < length h → a ≡ excluding (get_or h q 0) r
    → set h q a ≡ tab (length m) (up_to (q + 1) (dropped r m) m)
unfolding dropped
drop_step r m h q a e k w =
    let l = done_length (dropped r m) m h q e in
    done_set (dropped r m) m h q e a (w ∙ ap (λ (x : ℕ). excluding x r) (done_next (dropped r m) m h q e (omega arith)))

module _ (p : Plan) (u : ℕ) (m : List ℕ) (s : ℕ) {homes : List ℕ} (e : homes ≡ p.signals) where
  pub red_here : s < length homes → get_or homes s 0 ≡ u → red ≡ reddened p u m s
  unfolding reddened stands_at home_of
  red_here h w = rw (← e, lt-ltb s (length homes) h, eq-eqb (get_or homes s 0) u w)

  pub red_other : (get_or homes s 0 ≡ u → ⊥) → get_or m s 0 ≡ reddened p u m s
  unfolding reddened stands_at home_of
  red_other w = rw (← e, ne_eqb (get_or homes s 0) u w) (go (ltb s (length homes)))
    where
      go : (b : Bool) → get_or m s 0 ≡ cond (b && false) red (get_or m s 0)
      go true = refl
      go false = refl

  pub red_beyond : length homes ≤ s → get_or m s 0 ≡ reddened p u m s
  unfolding reddened stands_at
  red_beyond h = rw (← e, le-ltb s (length homes) h)

-- Arrivals: what the routes below n have given back.
unfoldable pub gave_back : Plan → ℕ → List ℕ → ℕ → ℕ → ℕ
gave_back p v m n q = dropped_all n (λ r. releases p r v q) (get_or m q 0)

released_has : (v q : ℕ) (l : List Release) → has q (released v (joined release_file l)) ≡ any_of (λ release. eqb release.track v && eqb release.point q) l
unfolding joined release_file released has
released_has v q [] = refl
released_has v q (a ∷ l) = go (eqb a.track v) (released_has v q l)
  where
    go : (b : Bool) → has q (released v (joined release_file l)) ≡ any_of (λ release. eqb release.track v && eqb release.point q) l
        → has q (cond b (a.point ∷ released v (joined release_file l)) (released v (joined release_file l)))
        ≡ ((b && eqb a.point q) || any_of (λ release. eqb release.track v && eqb release.point q) l)
    go true ih = ap (λ (x : Bool). eqb a.point q || x) ih
    go false ih = ih

module _ (p : Plan) (v : ℕ) (m : List ℕ) where
  pub back_none : length m ≡ most_tracks → m ≡ tab most_tracks (gave_back p v m 0)
  unfolding gave_back dropped_all
  back_none e = tab_of m most_tracks (gave_back p v m 0) 0 e (λ q h. refl)

  pub back_more : (r : ℕ) (h l : List ℕ) → h ≡ tab most_tracks (gave_back p v m r) → l ≡ joined release_file (route_of p r).releases
      → tab (length h) (freed (released v l) r h) ≡ tab most_tracks (gave_back p v m (r + 1))
  unfolding gave_back dropped_all freed releases
  back_more r h l e w = rw (e, length_tab most_tracks (gave_back p v m r), w) (tab_cong most_tracks _ _ at)
    where
      at : (q : ℕ) → q < most_tracks
          → freed (released v (joined release_file (route_of p r).releases)) r (tab most_tracks (gave_back p v m r)) q ≡ gave_back p v m (r + 1) q
      at q k = rw (get_or_tab most_tracks (gave_back p v m r) q 0 k, released_has v q (route_of p r).releases, add-one)

  pub back_all : (n : ℕ) → n ≡ length p.routes → tab most_tracks (gave_back p v m n) ≡ tab most_tracks (arrived p v m)
  unfolding gave_back arrived
  back_all n e = rw e

-- What a deed leaves as it was: the arm that does nothing knows which deeds come to it, or which don't.

pub trains_kept : (m : List ℕ) (a : Deed) → ((r : ℕ) × (a ≡ Granted r)) ⊎ ((r : ℕ) × (a ≡ Cancelled r)) → m ≡ new_trains m a
unfolding new_trains
trains_kept m a (inl (r, e)) = rw e
trains_kept m a (inr (r, e)) = rw e

module _ (p : Plan) (m : List ℕ) where
  pub lies_kept : (a : Deed) → ((r : ℕ) → a ≡ Granted r → ⊥) → m ≡ new_lies p m a
  unfolding new_lies
  lies_kept (Granted r) k = absurd (k r refl)
  lies_kept (Cancelled r) k = refl
  lies_kept (Entered train u) k = refl
  lies_kept (Moved train u v) k = refl
  lies_kept (Left train u) k = refl

  pub holds_kept : (a : Deed) → ((train : ℕ) × (u : ℕ) × (a ≡ Entered train u)) ⊎ ((train : ℕ) × (u : ℕ) × (a ≡ Left train u)) → m ≡ new_holds p m a
  unfolding new_holds given_back deed_arrives route_holds
  holds_kept a (inl (train, u, e)) = rw e
  holds_kept a (inr (train, u, e)) = rw e

-- An answer that is no deed changes nothing.
pub nothing_done : (p : Plan) (a : Answer) (σ : State) → ((deed : Deed) → a ≡ Done deed → ⊥) → σ ≡ after p σ a
unfolding after
nothing_done p (Refused refusal) σ k = refl
nothing_done p (Accident harm) σ k = refl
nothing_done p (Done deed) σ k = absurd (k deed refl)

pub deed_done : (p : Plan) (a : Answer) (σ : State) {deed : Deed} {τ : State} → a ≡ Done deed → τ ≡ after_deed p σ deed → τ ≡ after p σ a
unfolding after
deed_done p a σ e z = rw e z

pub deed_ready : (p : Plan) (a : Answer) {deed : Deed} → Readable p → Acts p a → a ≡ Done deed → Ready p deed
unfolding Acts
deed_ready p a R w e = record { readable = R; named = rw e at w }

-- Trains.
module _ (m : List ℕ) (long : length m ≡ most_tracks) where
  stood_set : (train u : ℕ) → set m u train ≡ tab most_tracks (stood train u m)
  unfolding stood
  stood_set train u = written m u train ∙ ap (λ (n : ℕ). tab n (stood train u m)) long

  gone_set : (u : ℕ) → set m u no_train ≡ tab most_tracks (gone u m)
  unfolding gone
  gone_set u = written m u no_train ∙ ap (λ (n : ℕ). tab n (gone u m)) long

module _ (m : List ℕ) (a : Deed) (long : length m ≡ most_tracks) where
  pub entered_trains : {train u : ℕ} → a ≡ Entered train u → set m u train ≡ new_trains m a
  unfolding new_trains
  entered_trains {train} {u} e = rw e (stood_set m long train u)

  pub moved_trains : {train u v : ℕ} → a ≡ Moved train u v → set (set m v train) u no_train ≡ new_trains m a
  unfolding new_trains
  moved_trains {train} {u} {v} e =
      rw (e, stood_set m long train v) (gone_set (tab most_tracks (stood train v m)) (length_tab most_tracks (stood train v m)) u)

  pub left_trains : {train u : ℕ} → a ≡ Left train u → set m u no_train ≡ new_trains m a
  unfolding new_trains
  left_trains {train} {u} e = rw e (gone_set m long u)

-- Lies and holds of the two lists of a route, one after the other.
module _ (p : Plan) (a : Deed) (m : List ℕ) (long : length m ≡ most_tracks) where
  module _ {r : ℕ} (e : a ≡ Granted r) {normal reverse : List ℕ} (n : normal ≡ (route_of p r).normal) (v : reverse ≡ (route_of p r).reverse) (m₁ m₂ : List ℕ) where
    pub granted_lies : m₁ ≡ tab (length m) (turned normal normal_lie m) → m₂ ≡ tab (length m₁) (turned reverse reverse_lie m₁) → m₂ ≡ new_lies p m a
    unfolding new_lies turned lie_after
    granted_lies e₁ e₂ =
        e₂ ∙ rw (e, ← n, ← v, e₁, length_tab (length m) (turned normal normal_lie m), long)
        (tab_cong most_tracks _ _ (λ q h. rw (get_or_tab most_tracks (turned normal normal_lie m) q 0 h)))

    pub granted_holds : m₁ ≡ tab (length m) (held normal r m) → m₂ ≡ tab (length m₁) (held reverse r m₁) → m₂ ≡ new_holds p m a
    unfolding new_holds given_back deed_arrives route_holds held taken listed
    granted_holds e₁ e₂ =
        e₂ ∙ rw (e, ← n, ← v, e₁, length_tab (length m) (held normal r m), long)
        (tab_cong most_tracks _ _ (λ q h. rw (get_or_tab most_tracks (held normal r m) q 0 h) (go (get_or m q 0) (has q normal) (has q reverse))))
      where
        go : (x : ℕ) (b c : Bool) → cond c (adding (cond b (adding x r) x) r) (cond b (adding x r) x) ≡ cond (b || c) (adding x r) x
        go x true true = adding_adding x r
        go x true false = refl
        go x false c = refl

  pub cancelled_holds : {r : ℕ} → a ≡ Cancelled r → {h : List ℕ} → h ≡ tab (length m) (dropped r m) → h ≡ new_holds p m a
  unfolding new_holds given_back deed_arrives route_holds
  cancelled_holds e w = w ∙ rw (e, long)

  pub moved_holds : {train u v : ℕ} → a ≡ Moved train u v → {h : List ℕ} → h ≡ tab most_tracks (arrived p v m) → h ≡ new_holds p m a
  unfolding new_holds given_back deed_arrives route_holds
  moved_holds e w = w ∙ rw e

-- Signals.
module _ (p : Plan) (a : Deed) (m : List ℕ) where
  module _ (long : length m ≡ most_signals) where
    shown_set : (s colour : ℕ) → set m s colour ≡ tab most_signals (shown s colour m)
    unfolding shown
    shown_set s colour = written m s colour ∙ ap (λ (n : ℕ). tab n (shown s colour m)) long

    pub granted_signals : {r s : ℕ} → a ≡ Granted r → s ≡ (route_of p r).start → set m s (r + 1) ≡ new_signals p m a
    unfolding new_signals red_behind deed_leaves route_signals
    granted_signals {r} {s} e w = rw (e, ← w, add-one) (shown_set s (suc r))

    pub cancelled_signals : {r s : ℕ} → a ≡ Cancelled r → s ≡ (route_of p r).start → set m s red ≡ new_signals p m a
    unfolding new_signals red_behind deed_leaves route_signals
    cancelled_signals {r} {s} e w = rw (e, ← w) (shown_set s red)

  pub entered_signals : {train u : ℕ} → a ≡ Entered train u → m ≡ new_signals p m a
  unfolding new_signals red_behind deed_leaves route_signals
  entered_signals e = rw e

  pub behind_signals : {u : ℕ} → ((train : ℕ) × (v : ℕ) × (a ≡ Moved train u v)) ⊎ ((train : ℕ) × (a ≡ Left train u)) → {h : List ℕ}
      → h ≡ tab most_signals (reddened p u m) → h ≡ new_signals p m a
  unfolding new_signals red_behind deed_leaves route_signals
  behind_signals (inl (train, v, e)) w = w ∙ rw e
  behind_signals (inr (train, e)) w = w ∙ rw e

-- The parts of the cells come back one after the other, and then the state is whole.

joins : {t t' y y' h h' s s' : List ℕ} → t ≡ t' → y ≡ y' → h ≡ h' → s ≡ s' → state_of t y h s ≡ state_of t' y' h' s'
joins et ey eh es = rw (et, ey, eh, es)

module _ (p : Plan) (a : Deed) (l h t y s : List ℕ) (n : length l ≡ cells_size) where
  abbrev l₁ : List ℕ
  l₁ = put_mid trains_from most_tracks l t

  abbrev l₂ : List ℕ
  l₂ = put_mid lies_from most_tracks l₁ y

  abbrev l₃ : List ℕ
  l₃ = put_mid signals_from most_signals l₂ s

  pub acted : {h' : List ℕ} → length l₁ ≡ length l → length l₂ ≡ length l₁ → length l₃ ≡ length l₂
      → t ≡ new_trains (mid_of trains_from most_tracks l) a → y ≡ new_lies p (mid_of lies_from most_tracks l₁) a → s ≡ new_signals p (mid_of signals_from most_signals l₂) a
      → h' ≡ new_holds p h a → state_in l₃ h' ≡ after_deed p (state_in l h) a
  unfolding trains_in lies_in signals_in part after_deed
  acted n₁ n₂ n₃ et ey es eh =
      let b₁ = back trains_from lies_from l t (omega arith) (omega arith) n₁ in
      let b₂ = back lies_from signals_from l₁ y (omega arith) (omega arith) n₂ in
      let b₃ = back signals_from cells_size l₂ s (omega arith) (omega arith) n₃ in
      joins
      (b₃.before trains_from most_tracks (omega arith) ∙ b₂.before trains_from most_tracks (omega arith) ∙ b₁.own most_tracks refl ∙ et)
      (b₃.before lies_from most_tracks (omega arith) ∙ b₂.own most_tracks refl ∙ ey ∙ ap (λ (m : List ℕ). new_lies p m a) (b₁.after lies_from most_tracks (omega arith)))
      eh
      (b₃.own most_signals refl ∙ es
      ∙ ap (λ (m : List ℕ). new_signals p m a) (b₂.after signals_from most_signals (omega arith) ∙ b₁.after signals_from most_signals (omega arith)))

  -- the same where each part that comes back is as long as the one that was lent
  pub parts_acted : {h' : List ℕ} → length t ≡ length (mid_of trains_from most_tracks l) → length y ≡ length (mid_of lies_from most_tracks l₁)
      → length s ≡ length (mid_of signals_from most_signals l₂)
      → t ≡ new_trains (mid_of trains_from most_tracks l) a → y ≡ new_lies p (mid_of lies_from most_tracks l₁) a → s ≡ new_signals p (mid_of signals_from most_signals l₂) a
      → h' ≡ new_holds p h a → state_in l₃ h' ≡ after_deed p (state_in l h) a
  parts_acted nt ny ns =
      acted (same_len_mid trains_from most_tracks l t nt) (same_len_mid lies_from most_tracks l₁ y ny) (same_len_mid signals_from most_signals l₂ s ns)
