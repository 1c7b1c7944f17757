-- What follows from demand 2 for any box: 13 and 14 name what their tests met, and a grant turns no point that is held; and agreement, since each row of a request's table comes out alike in two states that agree on what it looks at.
use mathlib.Core.Path.{◌≡◌, refl, sym, ap, ◌∙◌, subst}
use mathlib.Core.Logic.{◌↔◌}
use Prim.Native.Nat.{ℕ}
use Rattle.laws.specs.Answers.{LowestSuch}
use Rattle.laws.specs.Rows.{Within, last_alike, needs_alike, names_alike}
use Rattle.plan.specs.Records.{Plan, route_of}
use Rattle.plan.specs.Routes.{Listed}
use Rattle.plan.specs.File.{Readable}
use Rattle.state.specs.declared.State.{State}
use Rattle.state.specs.State.{lie_at, Holds, WellFormed}
use Rattle.events.specs.declared.Event.{Event}
use Rattle.events.specs.declared.Event.TheVariants.{Request, Enter}
use Rattle.events.specs.declared.Refusal.TheVariants.{Occupied}
use Rattle.events.specs.declared.Deed.TheVariants.{Granted}
use Rattle.events.specs.declared.Answer.{Answer}
use Rattle.events.specs.declared.Answer.TheVariants.{Refused, Done}
use Rattle.events.specs.Decide.{answer}
use Rattle.events.specs.After.{after_deed}
use Rattle.events.specs.Meaning.{Busy, OtherLie, HeldOther, Derails, SignalRed, request_table, event_table, table_of, Given, AfterGrant, Follows, Alike}
use Rattle.events.proofs.Told.{Told}
use Rattle.events.proofs.Given.{answers, one_given, told}
use Rattle.events.proofs.Reflect.{other_listed, other_same}
use Rattle.events.proofs.Views.{after_grant}
use Rattle.events.proofs.Follow.{grant_turns, grant_still}
use Rattle.events.proofs.Named.{answer_named, request_met, enter_met, answer_held, held_formed, request_said}
use Rattle.demands.specs.Demands.{Box, Demand2, NamesTrain, HeldTurned, NamesHeld, Agreement}

module _ (p : Plan) (r : ℕ) where
  -- what the tests look at
  alike_sym : (σ τ : State) → Alike p r σ τ → Alike p r τ σ
  alike_sym σ τ k = record {
    signal = sym k.signal;
    clear = λ u w. sym (k.clear u w);
    holds = λ q x l. sym (k.holds q x l);
    lies = λ x l. sym (k.lies x l);
    trains = λ x l. sym (k.trains x l);
  }

  module _ (σ τ : State) (k : Alike p r σ τ) where
    red_alike : SignalRed p σ r → SignalRed p τ r
    red_alike e = sym k.signal ∙ e

    busy_alike : (u : ℕ) → Busy p σ (route_of p r).clear u → Busy p τ (route_of p r).clear u
    busy_alike u (w, t) = (w, λ z. t (k.clear u w ∙ z))

    other_alike : (x : ℕ) → OtherLie p σ r x → Listed p r x × OtherLie p τ r x
    other_alike x o = let l = other_listed p σ r x o in (l, other_same p σ τ r x (sym (k.lies x l)) o)

    held_alike : (x : ℕ) → HeldOther p σ r x → HeldOther p τ r x
    held_alike x ((q, h), o) = let (l, same) = other_alike x o in ((q, sym (k.holds q x l) ∙ h), same)

    derails_alike : (x : ℕ) → Derails p σ r x → Derails p τ r x
    derails_alike x (t, o) = let (l, same) = other_alike x o in (λ z. t (k.trains x l ∙ z), same)

  -- a line for each row
  request_alike : (σ τ : State) → WellFormed p σ ↔ WellFormed p τ → Alike p r σ τ → Within Answer (table_of p σ (Request r)) (table_of p τ (Request r))
  unfolding table_of event_table request_table
  request_alike σ τ i k =
      let j = alike_sym σ τ k in
      needs_alike i
      (needs_alike (λ h. h, λ h. h)
      (needs_alike (red_alike σ τ k, red_alike τ σ j)
      (names_alike (λ u. (busy_alike σ τ k u, busy_alike τ σ j u)) (λ u b. ap (λ train. Refused (Occupied u train)) (k.clear u b.0))
      (names_alike (λ x. (held_alike σ τ k x, held_alike τ σ j x)) (λ x h. refl)
      (names_alike (λ x. (derails_alike σ τ k x, derails_alike τ σ j x)) (λ x h. refl)
      last_alike)))))

-- the answer of a box that meets demand 2 is that of the definitions
same_answer : (box : Box) → Demand2 box → (p : Plan) → Readable p → (σ : State) (event : Event) → answer p σ event ≡ box.answer p σ event
same_answer box d p reads σ event = answers p reads σ (d.answers p reads σ event)

pub demand2→names_train : (box : Box) → Demand2 box → NamesTrain box
demand2→names_train box d = record {
  names = λ p reads σ event u train e. answer_named p reads σ u train event (same p reads σ event ∙ e);
  request = λ p reads σ w r h red u train met. sym (same p reads σ (Request r)) ∙ request_met p reads σ u train w r h red met;
  entry = λ p reads σ w e other h n new u train met. sym (same p reads σ (Enter e other)) ∙ enter_met p reads σ u train w e other h n new met;
}
  where
    same : (p : Plan) → Readable p → (σ : State) (event : Event) → answer p σ event ≡ box.answer p σ event
    same = same_answer box d

-- what lies otherwise than the grant would leave it is what it would turn
held_turned : {p : Plan} {σ τ : State} {r q : ℕ} → AfterGrant p σ τ r → LowestSuch (HeldOther p σ r) q ↔ LowestSuch (HeldTurned σ τ) q
held_turned g = (
  λ l. record { such = (l.such.0, (grant_turns g _).0 l.such.1); no_lower = λ y h s. l.no_lower y h (s.0, (grant_turns g y).1 s.1) },
  λ l. record { such = (l.such.0, (grant_turns g _).1 l.such.1); no_lower = λ y h s. l.no_lower y h (s.0, (grant_turns g y).0 s.1) },
)

pub demand2→names_held : (box : Box) → Demand2 box → NamesHeld box
demand2→names_held box d = record {
  names = λ p reads σ event q e.
      let said = same p reads σ event ∙ e in
      let formed = held_formed p reads σ q event said in
      let (r, is, known, red, free, lowest) = answer_held p reads σ q event said in
      let g = after_grant p reads σ formed r known in
      (formed, (r, is, known, red, free, (after_deed p σ (Granted r), g, (held_turned g).0 lowest)));
  request = λ p reads σ τ w r h red none g q lowest. sym (same p reads σ (Request r)) ∙ request_said p reads σ q w r h red none ((held_turned g).1 lowest);
  still = still;
}
  where
    same : (p : Plan) → Readable p → (σ : State) (event : Event) → answer p σ event ≡ box.answer p σ event
    same = same_answer box d

    still : (p : Plan) → Readable p → (σ : State) (r k q : ℕ) → box.answer p σ (Request r) ≡ Done (Granted r) → Holds σ k q
        → lie_at (box.next p σ (Request r)) q ≡ lie_at σ q
    still p reads σ r k q e h =
        let t : Told p σ (Done (Granted r)) = subst (Told p σ) e (told p reads σ (d.answers p reads σ (Request r))) in
        let g : AfterGrant p σ (box.next p σ (Request r)) r = subst (Follows p σ (box.next p σ (Request r))) e (d.states p reads σ (Request r)) in
        grant_still g q (λ o. t.idle q ((k, h), o))

pub demand2→agreement : (box : Box) → Demand2 box → Agreement box
demand2→agreement box d p reads r σ τ f g k =
    let a = d.answers p reads σ (Request r) in
    let b : Given p τ (Request r) (box.answer p σ (Request r)) = record { row = (request_alike p r σ τ (λ w. g, λ w. f) k).carries _ a.row } in
    one_given p reads τ b (d.answers p reads τ (Request r))
