-- A session of calls at the face, each by its contract alone, and each done: `fresh`, `open`, a `feed` for each piece of the input, `finish`. What
-- they write, one after the other, is what is printed (proofs/Called.antt, as_printed).
use Rattle.std.specs.Prelude.{◌≡◌, List, [], ◌∷◌, ◌++◌, ℕ, ◌<◌, ◌≤◌, length, take, Ok}
use Rattle.plan.specs.Limits.{image_size}
use Rattle.reading.specs.Reading.{got, parse}
use Rattle.state.specs.declared.State.{State}
use Rattle.plan.specs.Records.{Plan}
use Rattle.plan.specs.File.{file_of, Readable}
use Rattle.plan.specs.Image.{plan_of}
use Rattle.rules.specs.Verdict.{verdict}
use Rattle.events.specs.declared.Event.{Event}
use Rattle.events.specs.declared.Answer.{Answer}
use Rattle.demands.specs.Demands.{history, Safe}
use Rattle.demands.specs.Ours.{ours}
use Rattle.demands.specs.Session.{printed, whole, FromFresh}
use Rattle.codes.specs.Codes.{written_code}
use Rattle.signalbox.specs.declared.Outcome.{Outcome}
use Rattle.signalbox.specs.Face.{unless, Loaded, Filed, Started, Stepped, Played, Opened, Feeds, Finishes}

-- A call: the buffer that is lent, and what is then handed back and left.
pub record Call : Type 0 where
  pub out : List ℕ
  pub outcome : Outcome
  pub state : State
  pub unfinished : List ℕ
  pub out' : List ℕ

-- what it has written
abbrev pub said : Call → List ℕ
said c = take c.outcome.written c.out'

abbrev pub Done : Call → Type 0
Done c = c.outcome.code ≡ 0

-- a feed for each piece, then the finish, from a state and an unfinished event on: all that they write
unfoldable pub Says : List ℕ → State → List ℕ → List (List ℕ) → List ℕ → Type 0
Says file σ unfinished [] lines =
    (c : Call) × Done c × Finishes (parse file) σ unfinished c.out c.outcome c.state c.unfinished c.out' × (lines ≡ said c)
Says file σ unfinished (piece ∷ pieces) lines =
    (c : Call) × (more : List ℕ) × Done c × Feeds (parse file) σ unfinished piece c.out c.outcome c.state c.unfinished c.out'
    × Says file c.state c.unfinished pieces more × (lines ≡ said c ++ more)

-- However the input is cut: the plan's line, and then theirs, are what is printed for the whole.
abbrev pub AsPrinted : Type 0
AsPrinted =
    (file : List ℕ) (pieces : List (List ℕ)) (σ : State) (unfinished : List ℕ) → Started σ unfinished → (out : List ℕ) (r : Outcome) (out' : List ℕ)
    → Opened (parse file) out r out' → r.code ≡ 0 → (lines : List ℕ) → Says file σ unfinished pieces lines → take r.written out' ++ lines ≡ printed file (whole pieces)

-- A call is safe: on an accepted plan, where the answers before it led from fresh to the state that it is lent, demand 3 holds of these and its own
-- (proofs/Called.antt, calls_safe). A run, a feed and a finish are played alike.
pub record CallsSafe : Type 0 where
  pub step : (file : List ℕ) {p : Plan} {at : ℕ} {rest : List ℕ} → parse file ≡ got p at rest → verdict p ≡ Ok tt → (before : List Answer) (σ : State) → FromFresh p before σ
      → (event : Event) (r : ℕ) (τ : State) → Stepped (parse file) σ event r τ → Safe p (before ++ history ours p σ (event ∷ [])) τ
  pub run : (file : List ℕ) {p : Plan} {at : ℕ} {rest : List ℕ} → parse file ≡ got p at rest → verdict p ≡ Ok tt → (before : List Answer) (σ : State) → FromFresh p before σ
      → (write : Answer → List ℕ) (reason : ℕ) (events : List Event) (out : List ℕ) (r : Outcome) (τ : State) (out' : List ℕ)
      → Played write (parse file) σ reason events out r τ out' → Safe p (before ++ history ours p σ (unless reason events [])) τ

-- Loading a file and writing what was loaded gives the same bytes; what is written of an image is the file of the plan that it shows; writing an image and
-- loading what was written gives the same image. By the contracts of the two calls alone (proofs/Kept.antt, keeps_plans).
pub record KeepsPlans : Type 0 where
  pub same_bytes : (file image image' out out' : List ℕ) (r s : ℕ) → Loaded file image r image' → r ≡ 0 → length file ≤ length out → Filed image' out s out'
      → (s ≡ written_code (Ok (length file))) × (take (length file) out' ≡ file)
  pub its_file : (image out out' : List ℕ) (s size : ℕ) → length image ≡ image_size → Filed image out s out' → s ≡ written_code (Ok size) → size < 65536
      → Readable (plan_of image) × (take size out' ≡ file_of (plan_of image))
  pub same_image : (image out out' other other' : List ℕ) (r s size : ℕ) → length image ≡ image_size → Filed image out s out' → s ≡ written_code (Ok size) → size < 65536
      → Loaded (take size out') other r other' → (r ≡ 0) × (other' ≡ image)
