-- One event by `step` and by `run`: the same event, the same answer and, both by `state_after`, the same state. A run hands back how many events it
-- played. Assumes nothing.
use mathlib.Core.Path.{◌≡◌, refl, sym, ap, ◌∙◌}
use mathlib.Core.List.{List, [], ◌∷◌}
use Prim.Native.Nat.{ℕ, suc}
use native.Mathlib.Nat.{zero-add}
use lib.ListN.{length}
use Rattle.laws.specs.Lists.{joined}
use Rattle.plan.specs.Records.{Plan}
use Rattle.reading.specs.Reading.{got}
use Rattle.state.specs.declared.State.{State}
use Rattle.events.specs.declared.Event.{Event}
use Rattle.events.specs.Events.{events_of, first_event}
use Rattle.demands.specs.Demands.{history}
use Rattle.demands.specs.Ours.{ours}
use Rattle.demands.specs.Session.{answers_of}
use Rattle.signalbox.specs.declared.Outcome.{Outcome}
use Rattle.signalbox.specs.Face.{code_of, step_code, unless, Ran}

pub same_event : (a b c : ℕ) → events_of (a ∷ (b ∷ (c ∷ []))) ≡ first_event (a ∷ (b ∷ (c ∷ []))) ∷ []
unfolding events_of first_event
same_event a b c = refl

codes_length : (p : Plan) (σ : State) (events : List Event) → length (joined code_of (history ours p σ events)) ≡ length events
unfolding joined history
codes_length p σ [] = refl
codes_length p σ (e ∷ events) = ap suc (codes_length p (ours.next p σ e) events)

module _ (p : Plan) (at : ℕ) (rest : List ℕ) (σ : State) where
  pub same_code : (event : Event) → joined code_of (answers_of (got p at rest) σ (event ∷ [])) ≡ step_code (got p at rest) σ event ∷ []
  unfolding answers_of history step_code joined
  same_code event = refl

  pub run_counts : (bytes out : List ℕ) {r : Outcome} {τ : State} {out' : List ℕ} → Ran (got p at rest) σ bytes out r τ out' → r.code ≡ 0 → r.written ≡ length (events_of bytes)
  unfolding answers_of unless
  run_counts bytes out d z =
      let all : List ℕ → ℕ = λ l. length l in
      d.written.ends ∙ zero-add _ ∙ ap (λ (n : ℕ). all (joined code_of (history ours p σ (unless n (events_of bytes) [])))) (sym d.code ∙ z) ∙ codes_length p σ (events_of bytes)
