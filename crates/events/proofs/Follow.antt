-- What a step leaves: from what the state shows after an answer, what it showed before.
use mathlib.Core.Path.{◌≡◌, refl, sym, ap, ◌∙◌}
use mathlib.Core.Logic.{◌≢◌, ◌⊎◌, inl, inr, ◌↔◌}
use Prim.Native.Nat.{ℕ, zero, suc}
use native.Mathlib.Omega.{arith}
use Rattle.laws.specs.Tests.{same?}
use Rattle.plan.specs.Records.{Plan, route_of}
use Rattle.plan.specs.Layout.{StandsAt}
use Rattle.plan.specs.Routes.{Listed, Releases}
use Rattle.state.specs.declared.State.{State}
use Rattle.state.specs.State.{no_train, red, green_for, train_at, lie_at, shown_at, HasTrain, Holds}
use Rattle.events.specs.Meaning.{OtherLie, AfterGrant, AfterCancel, AfterMove, AfterLeaving}
use Rattle.events.proofs.Cases.{in?, stands_at?, listed?, releases?}

-- a signal that is green is not red
pub green_red {ℓ} : {A : Type ℓ} (s r : ℕ) → s ≡ green_for r → s ≡ red → A
green_red s r g d = absurd (omega arith)

-- and one that is not red is green
pub not_red_lem : (s : ℕ) → s ≢ red → (r : ℕ) × (s ≡ green_for r)
not_red_lem zero d = absurd (d refl)
not_red_lem (suc r) d = (r, refl)

-- A request granted.
module _ {p : Plan} {σ τ : State} {r : ℕ} (g : AfterGrant p σ τ r) where
  pub grant_holds : (k x : ℕ) → Holds τ k x → ((k ≡ r) × Listed p r x) ⊎ (((k ≢ r) ⊎ (Listed p r x → ⊥)) × Holds σ k x)
  grant_holds k x h = elim (same? k r) [
    | inl e ↦ (elim (listed? p r x) [ inl l ↦ inl (e, l) | inr l ↦ inr (inr l, sym (g.other_holds k x (inr l)) ∙ h) ])
    | inr e ↦ inr (inl e, sym (g.other_holds k x (inl e)) ∙ h)
  ]

  pub grant_keeps : (k x : ℕ) → Holds σ k x → Holds τ k x
  grant_keeps k x h = elim (same? k r) [
    | inl e ↦ (elim (listed? p r x) [ inl l ↦ rw e (g.holds x l) | inr l ↦ g.other_holds k x (inr l) ∙ h ])
    | inr e ↦ g.other_holds k x (inl e) ∙ h
  ]

  -- the points that lie otherwise than the grant would leave them are those that it turns
  other_turned : (x : ℕ) → OtherLie p σ r x → lie_at τ x ≢ lie_at σ x
  other_turned x (inl (w, d)) e = d (sym e ∙ g.reverse x w)
  other_turned x (inr (n, w, d)) e = d (sym e ∙ g.normal x w n)

  turned_other : (x : ℕ) → lie_at τ x ≢ lie_at σ x → OtherLie p σ r x
  turned_other x d = elim (in? x (route_of p r).reverse) [
    | inl w ↦ inl (w, λ z. d (g.reverse x w ∙ sym z))
    | inr n ↦ (elim (in? x (route_of p r).normal) [
      | inl w ↦ inr (n, w, λ z. d (g.normal x w n ∙ sym z))
      | inr m ↦ absurd (d (g.other_lies x (λ l. elim l [ inl w ↦ m w | inr w ↦ n w ])))
    ])
  ]

  pub grant_turns : (x : ℕ) → OtherLie p σ r x ↔ (lie_at τ x ≢ lie_at σ x)
  grant_turns x = (other_turned x, turned_other x)

  -- and all others keep their lie
  pub grant_still : (x : ℕ) → (OtherLie p σ r x → ⊥) → lie_at τ x ≡ lie_at σ x
  grant_still x n = elim (same? (lie_at τ x) (lie_at σ x)) [ inl e ↦ e | inr d ↦ absurd (n (turned_other x d)) ]

  pub grant_green : (s k : ℕ) → shown_at τ s ≡ green_for k → ((s ≡ (route_of p r).start) × (k ≡ r)) ⊎ ((s ≢ (route_of p r).start) × (shown_at σ s ≡ green_for k))
  grant_green s k e = elim (same? s (route_of p r).start) [
    | inl q ↦ (let z : suc k ≡ suc r = sym e ∙ ap (shown_at τ) q ∙ g.signal in inl (q, omega arith))
    | inr q ↦ inr (q, sym (g.other_signals s q) ∙ e)
  ]

-- Cancelled.
module _ {p : Plan} {σ τ : State} {r : ℕ} (c : AfterCancel p σ τ r) where
  pub cancel_holds : (k x : ℕ) → Holds τ k x → (k ≢ r) × Holds σ k x
  cancel_holds k x h = elim (same? k r) [
    | inl e ↦ absurd (c.holds x (rw e at h))
    | inr e ↦ (e, sym (c.other_holds k x e) ∙ h)
  ]

  pub cancel_signal : (s : ℕ) → (shown_at τ s ≡ red) ⊎ ((s ≢ (route_of p r).start) × (shown_at τ s ≡ shown_at σ s))
  cancel_signal s = elim (same? s (route_of p r).start) [
    | inl e ↦ inl (ap (shown_at τ) e ∙ c.signal)
    | inr e ↦ inr (e, c.other_signals s e)
  ]

-- Moved.
module _ {p : Plan} {σ τ : State} {train u v : ℕ} (m : AfterMove p σ τ train u v) where
  -- a train that is not on v was there before, and not on u
  pub move_from_lem : (x : ℕ) → HasTrain τ x → x ≢ v → (x ≢ u) × (train_at τ x ≡ train_at σ x)
  move_from_lem x t d = let e : x ≢ u = λ q. t (ap (train_at τ) q ∙ m.behind) in (e, m.other_trains x e d)

  pub move_empty : (x : ℕ) → x ≢ v → train_at σ x ≡ no_train → train_at τ x ≡ no_train
  move_empty x d z = elim (same? x u) [ inl e ↦ ap (train_at τ) e ∙ m.behind | inr e ↦ m.other_trains x e d ∙ z ]

  pub move_holds : (k x : ℕ) → Holds τ k x → (Releases p k v x → ⊥) × Holds σ k x
  move_holds k x h = elim (releases? p k v x) [
    | inl e ↦ absurd (m.holds k x e h)
    | inr e ↦ (e, sym (m.other_holds k x e) ∙ h)
  ]

  pub move_signal : (s : ℕ) → (shown_at τ s ≡ red) ⊎ ((StandsAt p u s → ⊥) × (shown_at τ s ≡ shown_at σ s))
  move_signal s = elim (stands_at? p u s) [ inl e ↦ inl (m.signal s e) | inr e ↦ inr (e, m.other_signals s e) ]

-- Left.
module _ {p : Plan} {σ τ : State} {u : ℕ} (l : AfterLeaving p σ τ u) where
  pub leave_trains : (x : ℕ) → (train_at τ x ≡ no_train) ⊎ (train_at τ x ≡ train_at σ x)
  leave_trains x = elim (same? x u) [ inl e ↦ inl (ap (train_at τ) e ∙ l.behind) | inr e ↦ inr (l.other_trains x e) ]

  pub leave_signal : (s : ℕ) → (shown_at τ s ≡ red) ⊎ (shown_at τ s ≡ shown_at σ s)
  leave_signal s = elim (stands_at? p u s) [ inl e ↦ inl (l.signal s e) | inr e ↦ inr (l.other_signals s e) ]
