-- Who holds a point after a deed, on any plan that reads; and that a point lies as each of its holders would leave it: a grant leaves its own points so,
-- and turns no point that is held; nothing else turns a point or takes a hold.
use mathlib.Core.Path.{◌≡◌, sym, ◌∙◌, subst}
use mathlib.Core.Logic.{inl, inr}
use mathlib.Core.List.{List, []}
use Prim.Native.Nat.{ℕ}
use Rattle.plan.specs.Records.{Plan}
use Rattle.state.specs.declared.State.{State}
use Rattle.state.specs.State.{lie_at, Holds, fresh}
use Rattle.events.specs.declared.Event.{Event}
use Rattle.events.specs.declared.Answer.{Answer}
use Rattle.events.specs.declared.Deed.{Deed}
use Rattle.events.specs.declared.Deed.TheVariants.{Granted, Cancelled, Entered, Moved, Left}
use Rattle.events.specs.declared.Answer.TheVariants.{Refused, Accident, Done}
use Rattle.events.specs.Meaning.{OtherLie, AfterGrant, FollowsDeed, Follows}
use Rattle.events.proofs.Told.{Told}
use Rattle.events.proofs.Given.{told}
use Rattle.events.proofs.Reflect.{other_same}
use Rattle.events.proofs.Kept.{no_hold}
use Rattle.events.proofs.Follow.{grant_holds, grant_keeps, grant_still, cancel_holds, move_holds}
use Rattle.demands.specs.Demands.{Box, Demand2, KeepsOwn, Settled}
use Rattle.demands.proofs.Demand3.{along}

module _ (p : Plan) where
  -- each holder would leave the point as it lies
  record Rests (σ : State) : Type 0 where
    rests : (r q : ℕ) → Holds σ r q → OtherLie p σ r q → ⊥

  -- a grant leaves its points as it would leave them
  granted_rests : {σ τ : State} {r : ℕ} → AfterGrant p σ τ r → (q : ℕ) → OtherLie p τ r q → ⊥
  granted_rests g q (inl (w, d)) = d (g.reverse q w)
  granted_rests g q (inr (n, w, d)) = d (g.normal q w n)

  -- where no point is turned and no hold is taken
  fewer : (σ τ : State) → Rests σ → ((q : ℕ) → lie_at τ q ≡ lie_at σ q) → ((r q : ℕ) → Holds τ r q → Holds σ r q) → Rests τ
  fewer σ τ k lies holds = record { rests = λ r q h o. k.rests r q (holds r q h) (other_same p τ σ r q (sym (lies q)) o) }

  rests_after : (σ τ : State) → Rests σ → (a : Answer) → Told p σ a → Follows p σ τ a → Rests τ
  rests_after σ τ k (Refused refusal) t f = rw f k
  rests_after σ τ k (Accident harm) t f = rw f k
  rests_after σ τ k (Done (Granted n)) t f = record { rests = go }
    where
      go : (r q : ℕ) → Holds τ r q → OtherLie p τ r q → ⊥
      go r q h o = elim (grant_holds f r q h) [
        | inl (e, l) ↦ granted_rests f q (rw e at o)
        | inr (d, held) ↦ k.rests r q held (other_same p τ σ r q (sym (grant_still f q (λ z. t.idle q ((r, held), z)))) o)
      ]
  rests_after σ τ k (Done (Cancelled n)) t f = fewer σ τ k f.lies (λ r q h. (cancel_holds f r q h).1)
  rests_after σ τ k (Done (Entered train u)) t f = fewer σ τ k f.lies (λ r q h. sym (f.holds r q) ∙ h)
  rests_after σ τ k (Done (Moved train u v)) t f = fewer σ τ k f.lies (λ r q h. (move_holds f r q h).1)
  rests_after σ τ k (Done (Left train u)) t f = fewer σ τ k f.lies (λ r q h. sym (f.holds r q) ∙ h)

pub demand2→settled : (box : Box) → Demand2 box → Settled box
demand2→settled box d p reads events =
    (along box p (λ h σ. Rests p σ) step [] fresh (record { rests = λ r q h o. no_hold r q h }) events).rests
  where
    step : (h : List Answer) (σ : State) (event : Event) → Rests p σ → Rests p (box.next p σ event)
    step h σ event k = rests_after p σ (box.next p σ event) k (box.answer p σ event) (told p reads σ (d.answers p reads σ event)) (d.states p reads σ event)

-- What the state after an answer shows of a hold.
pub demand2→own_holds : (box : Box) → Demand2 box → KeepsOwn box
demand2→own_holds box d p reads σ event k q = record {
  granted = λ r e. let g = after (Granted r) e in (
    λ h. elim (grant_holds g k q h) [ inl (same, l) ↦ inr (same, l) | inr (other, held) ↦ inl held ],
    λ h. elim h [ inl held ↦ grant_keeps g k q held | inr (same, l) ↦ rw same (g.holds q l) ],
  );
  cancelled = λ r e. let c = after (Cancelled r) e in (cancel_holds c k q, λ h. c.other_holds k q h.0 ∙ h.1);
  moved = λ train u v e. let m = after (Moved train u v) e in (move_holds m k q, λ h. m.other_holds k q h.0 ∙ h.1);
  entered = λ train u e. let f = after (Entered train u) e in (λ h. sym (f.holds k q) ∙ h, λ h. f.holds k q ∙ h);
  left = λ train u e. let f = after (Left train u) e in (λ h. sym (f.holds k q) ∙ h, λ h. f.holds k q ∙ h);
}
  where
    after : (deed : Deed) → box.answer p σ event ≡ Done deed → FollowsDeed p σ (box.next p σ event) deed
    after deed e = subst (Follows p σ (box.next p σ event)) e (d.states p reads σ event)
