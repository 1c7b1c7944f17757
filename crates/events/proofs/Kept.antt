-- A well-formed state stays so, on any plan that can be read: each answer leaves trains, lies, holds and signals well formed, and fresh is well
-- formed. Then what the definition of the state after leaves is what follows, and so is well formed too.
use mathlib.Core.Path.{◌≡◌, refl, sym, ap, ◌∙◌}
use mathlib.Core.Bool.{true, false}
use mathlib.Core.Logic.{◌≢◌, ◌⊎◌, inl, inr}
use Prim.Native.Nat.{ℕ, zero, suc, ◌<◌, ◌≤◌}
use native.Mathlib.Omega.{arith}
use lib.ListN.{length, get_or, replicate}
use Rattle.laws.specs.Tests.{Is, clash, same?, below?}
use Rattle.laws.specs.Lists.{In}
use Rattle.laws.specs.Sets.{member_empty}
use Rattle.plan.specs.Limits.{most_tracks, most_signals}
use Rattle.plan.specs.Kinds.{is_point, Exit}
use Rattle.plan.specs.Records.{Plan, route_of, track_of}
use Rattle.plan.specs.Routes.{Listed}
use Rattle.plan.specs.File.{Readable}
use Rattle.plan.proofs.Says.{point_below}
use Rattle.state.specs.declared.State.{State}
use Rattle.state.specs.State.{no_train, normal_lie, reverse_lie, red, green_for, train_at, lie_at, held_by, shown_at, HasTrain, Holds, WellFormed, fresh}
use Rattle.events.specs.declared.Event.{Event}
use Rattle.events.specs.declared.Deed.{Deed}
use Rattle.events.specs.declared.Deed.TheVariants.{Granted, Cancelled, Entered, Moved, Left}
use Rattle.events.specs.declared.Answer.{Answer}
use Rattle.events.specs.declared.Answer.TheVariants.{Refused, Accident, Done}
use Rattle.events.specs.Decide.{answer}
use Rattle.events.specs.After.{after_deed, after, next_state}
use Rattle.events.specs.Meaning.{Next, AfterGrant, SameLies, FollowsDeed, Follows}
use Rattle.events.proofs.Facts.{start_below, listed_point, entry_below, out_below}
use Rattle.events.proofs.Told.{Front, Entering, Moving, Doing, Told}
use Rattle.events.proofs.Given.{given, told}
use Rattle.events.proofs.Cases.{in?, listed?}
use Rattle.events.proofs.Views.{after_grant, after_cancel, after_entry_lem, after_move, after_leaving}
use Rattle.events.proofs.Follow.{green_red, not_red_lem, grant_holds, grant_green, cancel_holds, cancel_signal, move_from_lem, move_empty, move_holds, move_signal, leave_trains, leave_signal}

-- Where a deed brings and takes trains: tracks of the plan; a move goes to another track.

pub train_below : (p : Plan) (σ : State) → WellFormed p σ → (u : ℕ) → HasTrain σ u → u < length p.tracks
train_below p σ w u t = elim (below? u (length p.tracks)) [ inl h ↦ h | inr h ↦ absurd (t (w.trains_end u h)) ]

module _ (p : Plan) (reads : Readable p) (σ : State) where
  next_below : (u v : ℕ) → u < length p.tracks → (Exit (track_of p u) → ⊥) → Next p σ u v → v < length p.tracks
  next_below u v h x (inl w) = rw (← w.1) (out_below p reads u false h x)
  next_below u v h x (inr w) = rw (← w.1) (out_below p reads u true h x)

  pub entered_below : {train u : ℕ} → Entering p σ train u → u < length p.tracks
  entered_below t = rw (← t.entry.track) (entry_below p reads t.entry.e t.entry.known)

  pub stood : {train u : ℕ} → Front p σ train u → HasTrain σ u
  stood f z = f.numbered (sym f.at ∙ z)

  pub moved_below : {train u v : ℕ} → Moving p σ train u v → v < length p.tracks
  moved_below {train} {u} {v} t = let s = t.step in next_below u v (train_below p σ s.front.formed u (stood s.front)) s.onward s.next

  pub moved_apart : {train u v : ℕ} → Moving p σ train u v → u ≢ v
  moved_apart t z = t.free (λ y. stood t.step.front (ap (train_at σ) z ∙ y))

-- The four parts of a well-formed state, from which the rest follows: points are tracks of the plan, and a green signal is one of its signals.

record Trains (p : Plan) (σ : State) : Type 0 where
  once : (u v : ℕ) → HasTrain σ u → train_at σ u ≡ train_at σ v → u ≡ v
  end : (u : ℕ) → length p.tracks ≤ u → train_at σ u ≡ no_train

record Lies (p : Plan) (σ : State) : Type 0 where
  point : (x : ℕ) → lie_at σ x ≡ reverse_lie → Is (is_point p.tracks x)
  two : (x : ℕ) → (lie_at σ x ≡ normal_lie) ⊎ (lie_at σ x ≡ reverse_lie)

record Holdings (p : Plan) (σ : State) : Type 0 where
  routes : (r x : ℕ) → length p.routes ≤ r → Holds σ r x → ⊥
  point : (r x : ℕ) → Holds σ r x → Is (is_point p.tracks x)

record Signals (p : Plan) (σ : State) : Type 0 where
  green : (s r : ℕ) → shown_at σ s ≡ green_for r → (r < length p.routes) × ((route_of p r).start ≡ s)

whole : {p : Plan} (σ : State) → Readable p → Trains p σ → Lies p σ → Holdings p σ → Signals p σ → WellFormed p σ
whole {p} σ reads t l h g = record {
  once = t.once;
  trains_end = t.end;
  lies_end = λ x e. elim (l.two x) [ inl z ↦ z | inr z ↦ (let k = point_below p.tracks x (l.point x z) in absurd (omega arith)) ];
  holds_end = λ r x e w. let z = point_below p.tracks x (h.point r x w) in omega arith;
  signals_end = λ s e. elim (same? (shown_at σ s) red) [
    | inl z ↦ z
    | inr z ↦ (let (r, on) = not_red_lem (shown_at σ s) z in
        let (known, start) = g.green s r on in
        let k = start_below p reads r known in absurd (omega arith))
  ];
  routes_end = h.routes;
  held_point = h.point;
  reverse_point = l.point;
  green = g.green;
  lie = l.two;
}

-- What each change leaves of them.
module _ {p : Plan} {σ τ : State} (w : WellFormed p σ) where
  -- no train is where it was not
  trains_fewer : ((x : ℕ) → (train_at τ x ≡ no_train) ⊎ (train_at τ x ≡ train_at σ x)) → Trains p τ
  trains_fewer f = record {
    once = λ x y t e. go x y t e (f x) (f y);
    end = λ x h. elim (f x) [ inl z ↦ z | inr z ↦ z ∙ w.trains_end x h ];
  }
    where
      go : (x y : ℕ) → HasTrain τ x → train_at τ x ≡ train_at τ y → (train_at τ x ≡ no_train) ⊎ (train_at τ x ≡ train_at σ x) → (train_at τ y ≡ no_train) ⊎ (train_at τ y ≡ train_at σ y) → x ≡ y
      go x y t e (inl a) b = absurd (t a)
      go x y t e (inr a) (inl b) = absurd (t (e ∙ b))
      go x y t e (inr a) (inr b) = w.once x y (λ z. t (a ∙ z)) (sym a ∙ e ∙ b)

  -- one train came to v, which no other track of τ has
  trains_one : (train v : ℕ) → v < length p.tracks → train_at τ v ≡ train
      → ((x : ℕ) → x ≢ v → HasTrain τ x → (train_at τ x ≡ train_at σ x) × (train_at σ x ≢ train))
      → ((x : ℕ) → x ≢ v → train_at σ x ≡ no_train → train_at τ x ≡ no_train) → Trains p τ
  trains_one train v hv at others empty = record {
    once = λ x y t e. go x y t e (same? x v) (same? y v);
    end = λ x h. empty x (λ z. let k = hv in omega arith) (w.trains_end x h);
  }
    where
      go : (x y : ℕ) → HasTrain τ x → train_at τ x ≡ train_at τ y → (x ≡ v) ⊎ (x ≢ v) → (y ≡ v) ⊎ (y ≢ v) → x ≡ y
      go x y t e (inl a) (inl b) = a ∙ sym b
      go x y t e (inl a) (inr b) = let (same, new) = others y b (λ z. t (e ∙ z)) in absurd (new (sym same ∙ sym e ∙ ap (train_at τ) a ∙ at))
      go x y t e (inr a) (inl b) = let (same, new) = others x a t in absurd (new (sym same ∙ e ∙ ap (train_at τ) b ∙ at))
      go x y t e (inr a) (inr b) =
          let c = (others x a t).0 in
          let d = (others y b (λ z. t (e ∙ z))).0 in
          w.once x y (λ z. t (c ∙ z)) (sym c ∙ e ∙ d)

  lies_same : SameLies σ τ → Lies p τ
  lies_same f = record { point = λ x e. w.reverse_point x (sym (f x) ∙ e); two = λ x. rw (f x) (w.lie x) }

  holdings_fewer : ((r x : ℕ) → Holds τ r x → Holds σ r x) → Holdings p τ
  holdings_fewer f = record { routes = λ r x e h. w.routes_end r x e (f r x h); point = λ r x h. w.held_point r x (f r x h) }

  signals_fewer : ((s : ℕ) → (shown_at τ s ≡ red) ⊎ (shown_at τ s ≡ shown_at σ s)) → Signals p τ
  signals_fewer f = record { green = λ s r g. elim (f s) [ inl z ↦ green_red _ r g z | inr z ↦ w.green s r (sym z ∙ g) ] }

  module _ (reads : Readable p) (r : ℕ) (known : r < length p.routes) (g : AfterGrant p σ τ r) where
    grant_lies : Lies p τ
    grant_lies = record {
      point = λ x e. elim (listed? p r x) [
        | inl l ↦ listed_point p reads r known x l
        | inr l ↦ w.reverse_point x (sym (g.other_lies x l) ∙ e)
      ];
      two = λ x. elim (in? x (route_of p r).reverse) [
        | inl a ↦ inr (g.reverse x a)
        | inr a ↦ (elim (in? x (route_of p r).normal) [
          | inl b ↦ inl (g.normal x b a)
          | inr b ↦ rw (g.other_lies x (neither x a b)) (w.lie x)
        ])
      ];
    }
      where
        neither : (x : ℕ) → (In x (route_of p r).reverse → ⊥) → (In x (route_of p r).normal → ⊥) → Listed p r x → ⊥
        neither x a b (inl n) = b n
        neither x a b (inr n) = a n

    grant_holdings : Holdings p τ
    grant_holdings = record {
      routes = λ k x e h. elim (grant_holds g k x h) [ inl z ↦ (let q = z.0 in omega arith) | inr z ↦ w.routes_end k x e z.1 ];
      point = λ k x h. elim (grant_holds g k x h) [ inl z ↦ listed_point p reads r known x z.1 | inr z ↦ w.held_point k x z.1 ];
    }

    grant_signals : Signals p τ
    grant_signals = record {
      green = λ s k e. elim (grant_green g s k e) [
        | inl z ↦ (rw z.1 known, ap (λ j. (route_of p j).start) z.1 ∙ sym z.0)
        | inr z ↦ w.green s k z.1
      ];
    }

-- A step.
deed_stays : {p : Plan} (σ τ : State) → Readable p → WellFormed p σ → (deed : Deed) → Doing p σ deed → FollowsDeed p σ τ deed → WellFormed p τ
deed_stays σ τ reads w (Granted r) t f =
    let known = t.known in
    whole τ reads (trains_fewer w (λ x. inr (f.trains x))) (grant_lies w reads r known f) (grant_holdings w reads r known f) (grant_signals w reads r known f)
deed_stays σ τ reads w (Cancelled r) t f =
    whole τ reads (trains_fewer w (λ x. inr (f.trains x))) (lies_same w f.lies) (holdings_fewer w (λ k x h. (cancel_holds f k x h).1))
    (signals_fewer w (λ s. elim (cancel_signal f s) [ inl z ↦ inl z | inr z ↦ inr z.1 ]))
deed_stays {p} σ τ reads w (Entered train u) t f =
    whole τ reads
    (trains_one w train u (entered_below p reads σ t) f.stands (λ x d h. (f.other_trains x d, λ z. t.entry.new (x, z))) (λ x d z. f.other_trains x d ∙ z))
    (lies_same w f.lies) (holdings_fewer w (λ k x h. sym (f.holds k x) ∙ h)) (signals_fewer w (λ s. inr (f.signals s)))
deed_stays σ τ reads w (Left train u) t f =
    whole τ reads (trains_fewer w (leave_trains f)) (lies_same w f.lies) (holdings_fewer w (λ k x h. sym (f.holds k x) ∙ h)) (signals_fewer w (leave_signal f))
deed_stays {p} σ τ reads w (Moved train u v) t f =
    whole τ reads (trains_one w train v (moved_below p reads σ t) f.stands others (move_empty f))
    (lies_same w f.lies) (holdings_fewer w (λ k x h. (move_holds f k x h).1))
    (signals_fewer w (λ s. elim (move_signal f s) [ inl z ↦ inl z | inr z ↦ inr z.1 ]))
  where
    others : (x : ℕ) → x ≢ v → HasTrain τ x → (train_at τ x ≡ train_at σ x) × (train_at σ x ≢ train)
    others x d h = let (off, same) = move_from_lem f x h d in (same, λ z. off (sym (w.once u x (stood p reads σ t.step.front) (t.step.front.at ∙ sym z))))

pub stays : {p : Plan} (σ τ : State) → Readable p → WellFormed p σ → (a : Answer) → Told p σ a → Follows p σ τ a → WellFormed p τ
stays σ τ reads w (Refused refusal) t f = rw f w
stays σ τ reads w (Accident harm) t f = rw f w
stays σ τ reads w (Done deed) t f = deed_stays σ τ reads w deed t f

-- The definition of the state after an answer says what follows from it.
module _ (p : Plan) (reads : Readable p) (σ : State) where
  deed_follows : (deed : Deed) → Doing p σ deed → FollowsDeed p σ (after_deed p σ deed) deed
  deed_follows (Granted r) t = after_grant p reads σ t.formed r t.known
  deed_follows (Cancelled r) t = after_cancel p reads σ t.formed r t.known
  deed_follows (Entered train u) t = after_entry_lem p reads σ t.entry.formed train u (entered_below p reads σ t)
  deed_follows (Moved train u v) t = after_move p reads σ t.step.front.formed train u v (moved_below p reads σ t) (moved_apart p reads σ t)
  deed_follows (Left train u) t = after_leaving p reads σ t.formed train u

  follows : (a : Answer) → Told p σ a → Follows p σ (after p σ a) a
  unfolding after
  follows (Refused refusal) t = refl
  follows (Accident harm) t = refl
  follows (Done deed) t = deed_follows deed t

  pub next_follows : (event : Event) → Follows p σ (next_state p σ event) (answer p σ event)
  unfolding next_state
  next_follows event = follows (answer p σ event) (told p reads σ (given p reads σ event))

  pub next_formed : (event : Event) → WellFormed p σ → WellFormed p (next_state p σ event)
  next_formed event w = stays σ (next_state p σ event) reads w (answer p σ event) (told p reads σ (given p reads σ event)) (next_follows event)

-- Fresh.

fresh_cell : (n i : ℕ) → get_or (replicate {A = ℕ} n 0) i 0 ≡ 0
fresh_cell zero i = refl
fresh_cell (suc n) zero = refl
fresh_cell (suc n) (suc i) = fresh_cell n i

pub no_train_lem : (u : ℕ) → train_at fresh u ≡ no_train
unfolding train_at fresh
no_train_lem u = fresh_cell most_tracks u

all_normal : (x : ℕ) → lie_at fresh x ≡ normal_lie
unfolding lie_at fresh
all_normal x = fresh_cell most_tracks x

pub no_hold : (r x : ℕ) → Holds fresh r x → ⊥
unfolding held_by fresh
no_hold r x h = clash h (rw (fresh_cell most_tracks x) (member_empty r))

pub all_red : (s : ℕ) → shown_at fresh s ≡ red
unfolding shown_at fresh
all_red s = fresh_cell most_signals s

pub fresh_formed : (p : Plan) → Readable p → WellFormed p fresh
fresh_formed p reads = whole fresh reads
    (record { once = λ u v t e. absurd (t (no_train_lem u)); end = λ u h. no_train_lem u })
    (record { point = λ x e. (let z = all_normal x in absurd (omega arith)); two = λ x. inl (all_normal x) })
    (record { routes = λ r x e h. no_hold r x h; point = λ r x h. absurd (no_hold r x h) })
    (record { green = λ s r g. green_red _ r g (all_red s) })
