-- Comings and goings: each answer that lets a train come or go changes what the state shows by just that.
use Rattle.std.specs.Prelude.{Some}
use mathlib.Core.Path.{◌≡◌, sym, ap, ◌∙◌}
use mathlib.Core.Logic.{◌≢◌, ◌⊎◌, inl, inr, ◌↔◌}
use mathlib.Core.List.{List, [], ◌∷◌, ◌++◌}
use Prim.Native.Nat.{ℕ, ◌+◌, ◌≤◌}
use native.Mathlib.Omega.{arith}
use borrow.Author.Tests.{eq-eqb, ne_eqb}
use Rattle.laws.specs.Tests.{same?}
use Rattle.plan.specs.Records.{Plan}
use Rattle.state.specs.declared.State.{State}
use Rattle.state.specs.State.{no_train, train_at, HasTrain}
use Rattle.events.specs.declared.Answer.{Answer}
use Rattle.events.specs.declared.Deed.TheVariants.{Granted, Cancelled, Entered, Moved, Left}
use Rattle.events.specs.declared.Answer.TheVariants.{Refused, Accident, Done}
use Rattle.events.specs.Answers.{deed_comes, deed_leaves, deed_arrives}
use Rattle.events.specs.Meaning.{Follows}
use Rattle.events.proofs.Told.{Told}
use Rattle.demands.specs.Demands.{once_at, comes, goes, total, shown}

-- What the state shows.

pub shown_none : (σ : State) (u : ℕ) → train_at σ u ≡ no_train → shown σ u ≡ 0
unfolding shown
shown_none σ u e = rw (eq-eqb (train_at σ u) no_train e)

pub shown_one : (σ : State) (u : ℕ) → HasTrain σ u → shown σ u ≡ 1
unfolding shown
shown_one σ u t = rw (ne_eqb (train_at σ u) no_train t)

shown_same : (σ τ : State) (u : ℕ) → train_at τ u ≡ train_at σ u → shown τ u ≡ shown σ u
unfolding shown
shown_same σ τ u e = rw e

train? : (σ : State) (u : ℕ) → (train_at σ u ≡ no_train) ⊎ HasTrain σ u
train? σ u = same? (train_at σ u) no_train

pub shown_most_lem : (σ : State) (u : ℕ) → shown σ u ≤ 1
shown_most_lem σ u = elim (train? σ u) [ inl e ↦ omega (arith, shown_none σ u e) | inr t ↦ omega (arith, shown_one σ u t) ]

pub shown_train_lem : (σ : State) (u : ℕ) → (shown σ u ≡ 1) ↔ HasTrain σ u
shown_train_lem σ u = (λ e z. let y = shown_none σ u z in omega arith, shown_one σ u)

-- One more answer.

pub once_same : (u v : ℕ) → u ≡ v → once_at u (Some v) ≡ 1
unfolding once_at
once_same u v e = rw (eq-eqb u v e)

pub once_other : (u v : ℕ) → u ≢ v → once_at u (Some v) ≡ 0
unfolding once_at
once_other u v d = rw (ne_eqb u v d)

-- `deed_arrives` is opened too, so that counts that go by arrivals fail at what is then not true
balance : (p : Plan) (σ τ : State) (a : Answer) → Told p σ a → Follows p σ τ a → (x : ℕ) → comes x a + shown σ x ≡ goes x a + shown τ x
unfolding once_at deed_comes deed_leaves deed_arrives
balance p σ τ (Refused refusal) t f x = rw f
balance p σ τ (Accident harm) t f x = rw f
balance p σ τ (Done (Granted r)) t f x = rw (shown_same σ τ x (f.trains x))
balance p σ τ (Done (Cancelled r)) t f x = rw (shown_same σ τ x (f.trains x))
balance p σ τ (Done (Entered train u)) t f x = elim (same? x u) [
  | inl e ↦ omega (arith, once_same x u e, before e, shown_one τ x (λ z. t.entry.numbered (sym f.stands ∙ sym (ap (train_at τ) e) ∙ z)))
  | inr e ↦ omega (arith, once_other x u e, shown_same σ τ x (f.other_trains x e))
]
  where
    before : x ≡ u → shown σ x ≡ 0
    before e = elim (train? σ x) [ inl z ↦ shown_none σ x z | inr h ↦ absurd (t.free (λ z. h (ap (train_at σ) e ∙ z))) ]
balance p σ τ (Done (Moved train u v)) t f x = elim (same? x u) [
  | inl e ↦ omega (arith, once_same x u e, once_other x v (λ z. apart (sym e ∙ z)), shown_one σ x (λ z. stood (sym (ap (train_at σ) e) ∙ z)), shown_none τ x (ap (train_at τ) e ∙ f.behind))
  | inr e ↦ (elim (same? x v) [
    | inl z ↦ omega (arith, once_other x u e, once_same x v z, before z, shown_one τ x (λ y. t.step.front.numbered (sym f.stands ∙ sym (ap (train_at τ) z) ∙ y)))
    | inr z ↦ omega (arith, once_other x u e, once_other x v z, shown_same σ τ x (f.other_trains x e z))
  ])
]
  where
    stood : HasTrain σ u
    stood z = t.step.front.numbered (sym t.step.front.at ∙ z)

    apart : u ≢ v
    apart z = t.free (λ y. stood (ap (train_at σ) z ∙ y))

    before : x ≡ v → shown σ x ≡ 0
    before e = elim (train? σ x) [ inl z ↦ shown_none σ x z | inr h ↦ absurd (t.free (λ z. h (ap (train_at σ) e ∙ z))) ]
balance p σ τ (Done (Left train u)) t f x = elim (same? x u) [
  | inl e ↦ omega (arith, once_same x u e, shown_one σ x (λ z. t.numbered (sym t.at ∙ sym (ap (train_at σ) e) ∙ z)), shown_none τ x (ap (train_at τ) e ∙ f.behind))
  | inr e ↦ omega (arith, once_other x u e, shown_same σ τ x (f.other_trains x e))
]

pub total_last : (f : Answer → ℕ) (h : List Answer) (a : Answer) → total f (h ++ (a ∷ [])) ≡ total f h + f a
unfolding total
total_last f [] a = omega arith
total_last f (b ∷ h) a = let i = total_last f h a in omega arith

pub counts : (p : Plan) (σ τ : State) (h : List Answer) (a : Answer) → Told p σ a → Follows p σ τ a
    → (u : ℕ) → total (comes u) h ≡ total (goes u) h + shown σ u → total (comes u) (h ++ (a ∷ [])) ≡ total (goes u) (h ++ (a ∷ [])) + shown τ u
counts p σ τ h a t f u e = omega (arith, total_last (comes u) h a, total_last (goes u) h a, balance p σ τ a t f u)
