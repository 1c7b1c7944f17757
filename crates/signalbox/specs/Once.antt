-- Any two results that a contract of the face allows are the same (proofs/Once.antt): what is handed back, the image, the state, the unfinished
-- event and the lent buffer. Two pairs of arrays that hold the same state are the same (state/specs/Once.antt).
use Rattle.std.specs.Prelude.{◌≡◌, List, ℕ}
use Rattle.plan.specs.Records.{Plan}
use Rattle.reading.specs.Reading.{Got}
use Rattle.state.specs.declared.State.{State}
use Rattle.events.specs.declared.Event.{Event}
use Rattle.events.specs.declared.Answer.{Answer}
use Rattle.signalbox.specs.declared.Outcome.{Outcome}
use Rattle.signalbox.specs.Face.{Loaded, Filed, Started, Stepped, Opened, Played, Answered}

pub record OneResult : Type 0 where
  pub loaded_once : (file image : List ℕ) (r s : ℕ) (image' other : List ℕ) → Loaded file image r image' → Loaded file image s other → (r ≡ s) × (image' ≡ other)
  pub filed_once : (image out : List ℕ) (r s : ℕ) (out' other : List ℕ) → Filed image out r out' → Filed image out s other → (r ≡ s) × (out' ≡ other)
  pub started_once : (τ υ : State) (unfinished others : List ℕ) → Started τ unfinished → Started υ others → (τ ≡ υ) × (unfinished ≡ others)
  pub stepped_once : (g : Got Plan) (σ : State) (event : Event) (r s : ℕ) (τ υ : State)
      → Stepped g σ event r τ → Stepped g σ event s υ → (r ≡ s) × (τ ≡ υ)
  pub opened_once : (g : Got Plan) (out : List ℕ) (r s : Outcome) (out' other : List ℕ) → Opened g out r out' → Opened g out s other → (r ≡ s) × (out' ≡ other)
  -- a run
  pub played_once : (write : Answer → List ℕ) (g : Got Plan) (σ : State) (reason : ℕ) (events : List Event) (out : List ℕ) (r s : Outcome) (τ υ : State) (out' other : List ℕ)
      → Played write g σ reason events out r τ out' → Played write g σ reason events out s υ other → (r ≡ s) × (τ ≡ υ) × (out' ≡ other)
  pub answered_once : (g : Got Plan) (σ : State) (unfinished : List ℕ) (reason : ℕ) (events : List Event) (left out : List ℕ)
      (r s : Outcome) (τ υ : State) (unfinished' others out' other : List ℕ)
      → Answered g σ unfinished reason events left out r τ unfinished' out' → Answered g σ unfinished reason events left out s υ others other
      → (r ≡ s) × (τ ≡ υ) × (unfinished' ≡ others) × (out' ≡ other)
