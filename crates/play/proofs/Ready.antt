-- What is decided on a readable plan can be acted on, and acting on it gives the state after it.
use mathlib.Core.Path.{◌≡◌, ap, ◌∙◌}
use Rattle.plan.specs.Records.{Plan}
use Rattle.plan.specs.File.{Readable}
use Rattle.state.specs.declared.State.{State}
use Rattle.events.specs.declared.Event.{Event}
use Rattle.events.specs.declared.Answer.{Answer}
use Rattle.events.specs.Decide.{decided}
use Rattle.events.specs.After.{after, Acts}
use Rattle.decide.proofs.Acting.{decided_acts}

module _ (p : Plan) (σ : State) (event : Event) {a : Answer} (e : a ≡ decided p σ event) where
  pub ready : Readable p → Acts p a
  ready R = rw e (decided_acts R σ event)

  pub played : {τ : State} → τ ≡ after p σ a → (a ≡ decided p σ event) × (τ ≡ after p σ (decided p σ event))
  played t = (e, t ∙ ap (after p σ) e)
