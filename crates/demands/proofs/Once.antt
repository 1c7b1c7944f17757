-- Demand 2 leaves no choice: the table gives one answer, and an answer sets every cell of the next state.
use mathlib.Core.Path.{◌≡◌, refl, sym, ◌∙◌}
use mathlib.Core.Bool.{Bool, true, false}
use mathlib.Core.Logic.{inl, inr}
use Rattle.laws.specs.Tests.{Is, same?}
use Rattle.plan.specs.Records.{Plan, route_of}
use Rattle.plan.specs.Routes.{Listed}
use Rattle.state.specs.declared.State.{State}
use Rattle.events.specs.declared.Deed.{Deed}
use Rattle.events.specs.declared.Deed.TheVariants.{Granted, Cancelled, Entered, Moved, Left}
use Rattle.events.specs.declared.Answer.TheVariants.{Refused, Accident, Done}
use Rattle.events.specs.declared.Answer.{Answer}
use Rattle.events.specs.Meaning.{FollowsDeed, Follows}
use Rattle.events.proofs.Given.{one_given}
use Rattle.events.proofs.Cases.{in?, listed?, releases?, stands_at?}
use Rattle.demands.specs.Demands.{SameState, NoChoice}

-- The state after an answer.

off : (b c : Bool) → (Is b → ⊥) → (Is c → ⊥) → b ≡ c
off false false m n = refl
off true c m n = absurd (m refl)
off false true m n = absurd (n refl)

same : {τ ω : State} → τ ≡ ω → SameState τ ω
same e = rw e (record { trains = λ u. refl; lies = λ x. refl; holds = λ k x. refl; signals = λ s. refl })

deed_once : (p : Plan) (σ τ ω : State) (deed : Deed) → FollowsDeed p σ τ deed → FollowsDeed p σ ω deed → SameState τ ω
deed_once p σ τ ω (Granted r) f g = record {
  trains = λ u. g.trains u ∙ sym (f.trains u);
  lies = λ x. elim (in? x (route_of p r).reverse) [
    | inl w ↦ g.reverse x w ∙ sym (f.reverse x w)
    | inr n ↦ (elim (in? x (route_of p r).normal) [
      | inl w ↦ g.normal x w n ∙ sym (f.normal x w n)
      | inr m ↦ (let l : (Listed p r x → ⊥) = λ w. elim w [ inl v ↦ m v | inr v ↦ n v ] in g.other_lies x l ∙ sym (f.other_lies x l))
    ])
  ];
  holds = λ k x. elim (listed? p r x) [
    | inl l ↦ (elim (same? k r) [ inl e ↦ rw e (g.holds x l ∙ sym (f.holds x l)) | inr e ↦ g.other_holds k x (inl e) ∙ sym (f.other_holds k x (inl e)) ])
    | inr l ↦ g.other_holds k x (inr l) ∙ sym (f.other_holds k x (inr l))
  ];
  signals = λ s. elim (same? s (route_of p r).start) [ inl e ↦ rw e (g.signal ∙ sym f.signal) | inr e ↦ g.other_signals s e ∙ sym (f.other_signals s e) ];
}
deed_once p σ τ ω (Cancelled r) f g = record {
  trains = λ u. g.trains u ∙ sym (f.trains u);
  lies = λ x. g.lies x ∙ sym (f.lies x);
  holds = λ k x. elim (same? k r) [ inl e ↦ rw e (off _ _ (g.holds x) (f.holds x)) | inr e ↦ g.other_holds k x e ∙ sym (f.other_holds k x e) ];
  signals = λ s. elim (same? s (route_of p r).start) [ inl e ↦ rw e (g.signal ∙ sym f.signal) | inr e ↦ g.other_signals s e ∙ sym (f.other_signals s e) ];
}
deed_once p σ τ ω (Entered train u) f g = record {
  trains = λ x. elim (same? x u) [ inl e ↦ rw e (g.stands ∙ sym f.stands) | inr e ↦ g.other_trains x e ∙ sym (f.other_trains x e) ];
  lies = λ x. g.lies x ∙ sym (f.lies x);
  holds = λ k x. g.holds k x ∙ sym (f.holds k x);
  signals = λ s. g.signals s ∙ sym (f.signals s);
}
deed_once p σ τ ω (Moved train u v) f g = record {
  trains = λ x. elim (same? x u) [
    | inl e ↦ rw e (g.behind ∙ sym f.behind)
    | inr e ↦ (elim (same? x v) [ inl d ↦ rw d (g.stands ∙ sym f.stands) | inr d ↦ g.other_trains x e d ∙ sym (f.other_trains x e d) ])
  ];
  lies = λ x. g.lies x ∙ sym (f.lies x);
  holds = λ k x. elim (releases? p k v x) [ inl e ↦ off _ _ (g.holds k x e) (f.holds k x e) | inr e ↦ g.other_holds k x e ∙ sym (f.other_holds k x e) ];
  signals = λ s. elim (stands_at? p u s) [ inl e ↦ g.signal s e ∙ sym (f.signal s e) | inr e ↦ g.other_signals s e ∙ sym (f.other_signals s e) ];
}
deed_once p σ τ ω (Left train u) f g = record {
  trains = λ x. elim (same? x u) [ inl e ↦ rw e (g.behind ∙ sym f.behind) | inr e ↦ g.other_trains x e ∙ sym (f.other_trains x e) ];
  lies = λ x. g.lies x ∙ sym (f.lies x);
  holds = λ k x. g.holds k x ∙ sym (f.holds k x);
  signals = λ s. elim (stands_at? p u s) [ inl e ↦ g.signal s e ∙ sym (f.signal s e) | inr e ↦ g.other_signals s e ∙ sym (f.other_signals s e) ];
}

follows_once : (p : Plan) (σ τ ω : State) (a : Answer) → Follows p σ τ a → Follows p σ ω a → SameState τ ω
follows_once p σ τ ω (Refused refusal) f g = same (f ∙ sym g)
follows_once p σ τ ω (Accident harm) f g = same (f ∙ sym g)
follows_once p σ τ ω (Done deed) f g = deed_once p σ τ ω deed f g

pub no_choice : NoChoice
no_choice box other d o p reads σ event =
    let e = one_given p reads σ (d.answers p reads σ event) (o.answers p reads σ event) in
    (e, follows_once p σ _ _ (box.answer p σ event) (d.states p reads σ event) (rw (← e) at (o.states p reads σ event)))
