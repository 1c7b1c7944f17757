-- The contracts of the face leave no choice: each is made of equalities and of what was written where. Assumes nothing.
use mathlib.Core.Path.{◌≡◌, sym, ap, ◌∙◌}
use mathlib.Core.List.{List}
use Prim.Native.Nat.{ℕ}
use Rattle.plan.specs.Records.{Plan}
use Rattle.reading.specs.Reading.{Got}
use Rattle.state.specs.declared.State.{State}
use Rattle.events.specs.declared.Event.{Event}
use Rattle.events.specs.declared.Answer.{Answer}
use Rattle.laws.specs.Written.{wrote_once}
use Rattle.signalbox.specs.declared.Outcome.{Outcome}
use Rattle.signalbox.specs.Face.{Played}
use Rattle.signalbox.specs.Once.{OneResult}

-- an outcome is its code and how much was written, and has no other field
outcome_once : (r s : Outcome) → r.code ≡ s.code → r.written ≡ s.written → r ≡ s
outcome_once r s c w = ap (λ (n : ℕ). outcome n r.written) c ∙ ap (λ (n : ℕ). outcome s.code n) w
  where
    outcome : ℕ → ℕ → Outcome
    outcome code written = record { code = code; written = written }

played_once : (write : Answer → List ℕ) (g : Got Plan) (σ : State) (reason : ℕ) (events : List Event) (out : List ℕ) (r s : Outcome) (τ υ : State) (out' other : List ℕ)
    → Played write g σ reason events out r τ out' → Played write g σ reason events out s υ other → (r ≡ s) × (τ ≡ υ) × (out' ≡ other)
played_once write g σ reason events out r s τ υ out' other p q =
    let w = wrote_once _ _ _ _ _ _ _ p.written q.written in (outcome_once r s (p.code ∙ sym q.code) w.1, p.state ∙ sym q.state, w.0)

pub one_result : OneResult
one_result = record {
  loaded_once = λ file image r s image' other p q. (p.code ∙ sym q.code, p.holds ∙ sym q.holds);
  filed_once = λ image out r s out' other p q. (p.code ∙ sym q.code, p.holds ∙ sym q.holds);
  started_once = λ τ υ unfinished others p q. (p.state ∙ sym q.state, p.none ∙ sym q.none);
  stepped_once = λ g σ event r s τ υ p q. (p.code ∙ sym q.code, p.state ∙ sym q.state);
  opened_once = λ g out r s out' other p q.
      let w = wrote_once _ _ _ _ _ _ _ p.written q.written in (outcome_once r s (p.code ∙ sym q.code) w.1, w.0);
  played_once = played_once;
  answered_once = λ g σ unfinished reason events left out r s τ υ unfinished' others out' other p q.
      let w = played_once _ _ _ _ _ _ _ _ _ _ _ _ p.played q.played in (w.0, w.1, p.kept ∙ sym q.kept, w.2);
}
