-- Holds by history: a hold is there exactly if the history splits at the route's latest grant with nothing after it that gives the hold back.
use Rattle.std.specs.Prelude.{None, Some}
use mathlib.Core.Path.{◌≡◌, refl, sym, ap, ◌∙◌, subst}
use mathlib.Core.Logic.{◌≢◌, ◌⊎◌, inl, inr, ◌↔◌}
use mathlib.Core.List.{List, [], ◌∷◌, ◌++◌, append_assoc}
use Prim.Native.Nat.{ℕ}
use Rattle.laws.specs.Tests.{never, same?}
use Rattle.laws.specs.Lists.{All}
use Rattle.plan.specs.Records.{Plan}
use Rattle.plan.specs.Routes.{Listed, Releases}
use Rattle.state.specs.declared.State.{State}
use Rattle.state.specs.State.{held_by, Holds}
use Rattle.events.specs.declared.Answer.{Answer}
use Rattle.events.specs.declared.Deed.TheVariants.{Granted, Cancelled, Entered, Moved, Left}
use Rattle.events.specs.declared.Answer.TheVariants.{Refused, Accident, Done}
use Rattle.events.specs.Answers.{deed_arrives, arrives_on}
use Rattle.events.specs.Meaning.{Follows}
use Rattle.events.proofs.Cases.{listed?, releases?}
use Rattle.events.proofs.Follow.{cancel_holds}
use Rattle.demands.specs.Demands.{SinceGrant}

-- Lists with one more element at the end.

pub all_last {ℓ} : {A : Type ℓ} (ok : A → Type 0) (l : List A) (a : A) → All ok l → ok a → All ok (l ++ (a ∷ []))
unfolding All
all_last ok [] a w k = (k, tt)
all_last ok (b ∷ l) a w k = (w.0, all_last ok l a w.1 k)

pub all_but {ℓ} : {A : Type ℓ} (ok : A → Type 0) (l : List A) (a : A) → All ok (l ++ (a ∷ [])) → All ok l × ok a
unfolding All
all_but ok [] a w = (tt, w.0)
all_but ok (b ∷ l) a w = let (v, k) = all_but ok l a w.1 in ((w.0, v), k)

-- a list with a last element, split: at the last element, or before it
last_split {ℓ} : {A : Type ℓ} (l : List A) (a x : A) (earlier later : List A) → l ++ (a ∷ []) ≡ earlier ++ (x ∷ later)
    → ((later ≡ []) × (a ≡ x)) ⊎ ((before : List A) × (later ≡ before ++ (a ∷ [])) × (l ≡ earlier ++ (x ∷ before)))
last_split [] a x [] later e = inl (cc, cc)
last_split [] a x (y ∷ []) later e = never (cc)
last_split [] a x (y ∷ (z ∷ earlier)) later e = never (cc)
last_split (b ∷ l) a x [] later e = inr (l, cc, cc)
last_split (b ∷ l) a x (y ∷ earlier) later e = elim (last_split l a x earlier later (cc)) [
  | inl w ↦ inl w
  | inr w ↦ inr (let (before, f, g) = w in (before, f, cc))
]

module _ (p : Plan) (r x : ℕ) where
  -- an answer that leaves a hold of r on x alone: no grant or cancel of r, no arrival on a release track of x
  record Spares (a : Answer) : Type 0 where
    ungranted : a ≢ Done (Granted r)
    uncancelled : a ≢ Done (Cancelled r)
    unreleased : (v : ℕ) → arrives_on a ≡ Some v → Releases p r v x → ⊥

  -- an answer by which no train arrives
  quiet : {a : Answer} → a ≢ Done (Granted r) → a ≢ Done (Cancelled r) → arrives_on a ≡ None → Spares a
  quiet g c n = record { ungranted = g; uncancelled = c; unreleased = λ v e. never (cc) }

  module _ (σ τ : State) where
    spared : (a : Answer) → Spares a → Follows p σ τ a → held_by τ r x ≡ held_by σ r x
    unfolding deed_arrives
    spared (Refused refusal) s f = rw f
    spared (Accident harm) s f = rw f
    spared (Done (Granted q)) s f = f.other_holds r x (inl (λ e. s.ungranted (rw e)))
    spared (Done (Cancelled q)) s f = f.other_holds r x (λ e. s.uncancelled (rw e))
    spared (Done (Entered train u)) s f = f.holds r x
    spared (Done (Moved train u v)) s f = f.other_holds r x (s.unreleased v refl)
    spared (Done (Left train u)) s f = f.holds r x

    -- an answer leaves the hold alone, or grants the route, or ends the hold
    ends? : (a : Answer) → Follows p σ τ a → Spares a ⊎ ((a ≡ Done (Granted r)) ⊎ (Holds τ r x → ⊥))
    unfolding deed_arrives
    ends? (Refused refusal) f = inl (quiet (λ e. never (cc)) (λ e. never (cc)) refl)
    ends? (Accident harm) f = inl (quiet (λ e. never (cc)) (λ e. never (cc)) refl)
    ends? (Done (Granted q)) f = elim (same? q r) [
      | inl e ↦ inr (inl (rw e))
      | inr d ↦ inl (quiet (λ e. d (cc)) (λ e. never (cc)) refl)
    ]
    ends? (Done (Cancelled q)) f = elim (same? q r) [
      | inl e ↦ inr (inr (λ h. (cancel_holds f r x h).0 (sym e)))
      | inr d ↦ inl (quiet (λ e. never (cc)) (λ e. d (cc)) refl)
    ]
    ends? (Done (Entered train u)) f = inl (quiet (λ e. never (cc)) (λ e. never (cc)) refl)
    ends? (Done (Moved train u v)) f = elim (releases? p r v x) [
      | inl e ↦ inr (inr (f.holds r x e))
      | inr d ↦ inl (record { ungranted = λ e. never (cc); uncancelled = λ e. never (cc); unreleased = λ w e. let z : v ≡ w = cc in rw z at d })
    ]
    ends? (Done (Left train u)) f = inl (quiet (λ e. never (cc)) (λ e. never (cc)) refl)

    -- The history after one more answer.
    module _ (h : List Answer) (a : Answer) (f : Follows p σ τ a) (so_far : Holds σ r x ↔ (Listed p r x × SinceGrant p r x h)) where
      still : Spares a → SinceGrant p r x h → SinceGrant p r x (h ++ (a ∷ []))
      still s since = record {
        earlier = since.earlier;
        later = since.later ++ (a ∷ []);
        splits = ap (λ l. l ++ (a ∷ [])) since.splits ∙ append_assoc since.earlier (Done (Granted r) ∷ since.later) (a ∷ []);
        latest = all_last _ since.later a since.latest s.ungranted;
        uncancelled = all_last _ since.later a since.uncancelled s.uncancelled;
        unreleased = all_last _ since.later a since.unreleased s.unreleased;
      }

      now : a ≡ Done (Granted r) → SinceGrant p r x (h ++ (a ∷ []))
      unfolding All
      now e = record { earlier = h; later = []; splits = ap (λ b. h ++ (b ∷ [])) e; latest = tt; uncancelled = tt; unreleased = tt }

      pub held_after : Holds τ r x ↔ (Listed p r x × SinceGrant p r x (h ++ (a ∷ [])))
      held_after = (forth, back)
        where
          granted : a ≡ Done (Granted r) → Holds τ r x → Listed p r x × SinceGrant p r x (h ++ (a ∷ []))
          granted e k = elim (listed? p r x) [
            | inl l ↦ (l, now e)
            | inr l ↦ absurd (l (so_far.0 (sym ((subst (Follows p σ τ) e f).other_holds r x (inr l)) ∙ k)).0)
          ]

          forth : Holds τ r x → Listed p r x × SinceGrant p r x (h ++ (a ∷ []))
          forth k = elim (ends? a f) [
            | inl s ↦ (let (l, since) = so_far.0 (sym (spared a s f) ∙ k) in (l, still s since))
            | inr (inl e) ↦ granted e k
            | inr (inr n) ↦ absurd (n k)
          ]

          back : Listed p r x × SinceGrant p r x (h ++ (a ∷ [])) → Holds τ r x
          back (l, since) = elim (last_split h a (Done (Granted r)) since.earlier since.later since.splits) [
            | inl (none, e) ↦ (subst (Follows p σ τ) e f).holds x l
            | inr (before, e, g) ↦ (let (c1, k1) = all_but _ before a (rw e at since.latest) in
                let (c2, k2) = all_but _ before a (rw e at since.uncancelled) in
                let (c3, k3) = all_but _ before a (rw e at since.unreleased) in
                spared a (record { ungranted = k1; uncancelled = k2; unreleased = k3 }) f
                ∙ so_far.1 (l, record { earlier = since.earlier; later = before; splits = g; latest = c1; uncancelled = c2; unreleased = c3 }))
          ]
