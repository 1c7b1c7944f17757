-- A box that obeys the written rules is safe on every accepted plan: along a run each step keeps the state well formed, the invariant and what
-- demand 3 says of the answers so far.
use mathlib.Core.Path.{◌≡◌, refl, ap, subst}
use mathlib.Core.Bool.{true, false}
use mathlib.Core.Logic.{inl, inr, ◌↔◌}
use mathlib.Core.List.{List, [], ◌∷◌, ◌++◌, append_assoc, append-nil}
use Prim.Native.Nat.{ℕ, zero, suc}
use native.Mathlib.Omega.{arith}
use lib.ListN.{take}
use Rattle.laws.specs.Tests.{never}
use Rattle.laws.specs.Lists.{All}
use Rattle.plan.specs.Records.{Plan}
use Rattle.plan.specs.Routes.{points_of, Listed}
use Rattle.plan.specs.File.{Readable}
use Rattle.rules.specs.Verdict.{Sound}
use Rattle.state.specs.declared.State.{State}
use Rattle.state.specs.State.{Holds, WellFormed, fresh}
use Rattle.events.specs.declared.Event.{Event}
use Rattle.events.specs.declared.Refusal.TheVariants.{IllFormed}
use Rattle.events.specs.declared.Answer.{Answer}
use Rattle.events.specs.declared.Deed.TheVariants.{Granted}
use Rattle.events.specs.declared.Answer.TheVariants.{Refused, Done}
use Rattle.events.specs.Answers.{refusal_number}
use Rattle.events.specs.Meaning.{Follows}
use Rattle.events.proofs.Told.{Told}
use Rattle.events.proofs.Given.{told}
use Rattle.events.proofs.Kept.{stays, fresh_formed, no_train_lem, no_hold}
use Rattle.demands.specs.Demands.{Box, Demand2, history, reached, total, SinceGrant, ListedAsItLies, Safe, Demand3}
use Rattle.demands.proofs.Invariant.{Invariant, fresh_invariant}
use Rattle.demands.proofs.Accidents.{no_accident}
use Rattle.demands.proofs.Steps.{keeps}
use Rattle.demands.proofs.Counting.{shown_none, shown_most_lem, shown_train_lem, counts}
use Rattle.demands.proofs.History.{all_last, held_after}

-- The history of the first n events is the first n answers.
pub history_first : (box : Box) (p : Plan) (σ : State) (events : List Event) (n : ℕ) → history box p σ (take n events) ≡ take n (history box p σ events)
unfolding history
history_first box p σ [] zero = refl
history_first box p σ [] (suc n) = refl
history_first box p σ (event ∷ events) zero = refl
history_first box p σ (event ∷ events) (suc n) = ap (λ h. box.answer p σ event ∷ h) (history_first box p (box.next p σ event) events n)

-- Events and then more: the answers and the state are those of the first and then, from where these lead, of the others.
module _ (box : Box) (p : Plan) where
  pub reached_append : (σ : State) (a b : List Event) → reached box p σ (a ++ b) ≡ reached box p (reached box p σ a) b
  unfolding reached
  reached_append σ [] b = refl
  reached_append σ (e ∷ a) b = reached_append (box.next p σ e) a b

  pub history_append : (σ : State) (a b : List Event) → history box p σ (a ++ b) ≡ history box p σ a ++ history box p (reached box p σ a) b
  unfolding history reached
  history_append σ [] b = refl
  history_append σ (e ∷ a) b = ap (λ h. box.answer p σ e ∷ h) (history_append (box.next p σ e) a b)

-- What every answer and next state keep holds along a run.
pub along : (box : Box) (p : Plan) (Kept : List Answer → State → Type 0)
    → ((h : List Answer) (σ : State) (event : Event) → Kept h σ → Kept (h ++ (box.answer p σ event ∷ [])) (box.next p σ event))
    → (h : List Answer) (σ : State) → Kept h σ → (events : List Event) → Kept (h ++ history box p σ events) (reached box p σ events)
unfolding history reached
along box p Kept step h σ k [] = rw (append-nil h) k
along box p Kept step h σ k (event ∷ events) =
    rw (append_assoc h (box.answer p σ event ∷ []) (history box p (box.next p σ event) events)) at
    (along box p Kept step (h ++ (box.answer p σ event ∷ [])) (box.next p σ event) (step h σ event k) events)

-- what is kept
record Kept (p : Plan) (h : List Answer) (σ : State) : Type 0 where
  formed : WellFormed p σ
  invariant : Invariant p σ
  safe : Safe p h σ

fresh_safe : (p : Plan) → Readable p → Safe p [] fresh
unfolding total All
fresh_safe p reads = record {
  counted = λ u. omega (arith, shown_none fresh u (no_train_lem u));
  shown_most = shown_most_lem fresh;
  shown_train = shown_train_lem fresh;
  held = λ r x. (λ h. absurd (no_hold r x h), λ w. absurd (no_split (Done (Granted r)) w.1.earlier w.1.later w.1.splits));
  agreed = λ r x h. absurd (no_hold r x h);
  whole = fresh_formed p reads;
  unharmed = tt;
  formed = tt;
}
  where
    no_split : (a : Answer) (earlier later : List Answer) → [] ≡ earlier ++ (a ∷ later) → ⊥
    no_split a [] later e = never (cc)
    no_split a (b ∷ earlier) later e = never (cc)

module _ (p : Plan) (reads : Readable p) (sound : Sound p) where
  -- what a route holds and lists lies as it is listed
  as_listed : (τ : State) → Invariant p τ → (r x : ℕ) → Holds τ r x → Listed p r x → ListedAsItLies p τ r x
  unfolding points_of
  as_listed τ inv r x h (inl w) = inl (inv.lies r x false h w, w)
  as_listed τ inv r x h (inr w) = inr (inv.lies r x true h w, w)

  safe_after : (h : List Answer) (σ τ : State) (a : Answer) → WellFormed p σ → Invariant p σ → Safe p h σ → Told p σ a → Follows p σ τ a
      → Safe p (h ++ (a ∷ [])) τ
  unfolding refusal_number
  safe_after h σ τ a w inv s t f = record {
    counted = λ u. counts p σ τ h a t f u (s.counted u);
    shown_most = shown_most_lem τ;
    shown_train = shown_train_lem τ;
    held = held;
    agreed = λ r x k. as_listed τ (keeps reads sound w inv a t f) r x k ((held r x).0 k).0;
    whole = stays σ τ reads w a t f;
    unharmed = all_last _ h a s.unharmed (λ harm e. no_accident p reads sound σ inv w harm (subst (Told p σ) e t));
    formed = all_last _ h a s.formed (λ e. ill (subst (Told p σ) e t) w);
  }
    where
      held : (r x : ℕ) → Holds τ r x ↔ (Listed p r x × SinceGrant p r x (h ++ (a ∷ [])))
      held r x = held_after p r x σ τ h a f (s.held r x)

      ill : Told p σ (Refused IllFormed) → WellFormed p σ → ⊥
      ill n = n

  -- on this plan the box obeys the written rules, wherever it can come from fresh
  abbrev pub Obeys : Box → Type 0
  Obeys box = (σ : State) (event : Event) → WellFormed p σ → Invariant p σ → Told p σ (box.answer p σ event) × Follows p σ (box.next p σ event) (box.answer p σ event)

  pub obeys_safe : (box : Box) → Obeys box → (events : List Event) → Safe p (history box p fresh events) (reached box p fresh events)
  obeys_safe box obeys events = (along box p (Kept p) step [] fresh start events).safe
    where
      start : Kept p [] fresh
      start = record { formed = fresh_formed p reads; invariant = fresh_invariant p; safe = fresh_safe p reads }

      step : (h : List Answer) (σ : State) (event : Event) → Kept p h σ → Kept p (h ++ (box.answer p σ event ∷ [])) (box.next p σ event)
      step h σ event k =
          let (t, f) = obeys σ event k.formed k.invariant in
          record {
            formed = stays σ (box.next p σ event) reads k.formed (box.answer p σ event) t f;
            invariant = keeps reads sound k.formed k.invariant (box.answer p σ event) t f;
            safe = safe_after h σ (box.next p σ event) (box.answer p σ event) k.formed k.invariant k.safe t f;
          }

pub demand2→demand3 : (box : Box) → Demand2 box → Demand3 box
demand2→demand3 box d p reads sound = obeys_safe p reads sound box (λ σ event w inv. (told p reads σ (d.answers p reads σ event), d.states p reads σ event))
