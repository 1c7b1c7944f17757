-- A session: what is printed for any bytes as a plan and any bytes as events, the same piece by piece as the events are read, and what is known from
-- call to call. The proofs stand in proofs/Session.antt.
use Rattle.std.specs.Prelude.{◌≡◌, List, [], ◌∷◌, ◌++◌, ℕ, Ok}
use Rattle.laws.specs.Lists.{joined}
use Rattle.plan.specs.Records.{Plan}
use Rattle.reading.specs.Reading.{Got, form, got, parse}
use Rattle.rules.specs.Verdict.{verdict}
use Rattle.state.specs.declared.State.{State}
use Rattle.state.specs.State.{fresh}
use Rattle.events.specs.declared.Event.{Event}
use Rattle.events.specs.declared.Answer.{Answer}
use Rattle.events.specs.Events.{events_of, whole_events, left_over}
use Rattle.lines.specs.Lines.{answer_line, verdict_line, form_line}
use Rattle.demands.specs.Demands.{history, reached, Safe}
use Rattle.demands.specs.Ours.{ours}

-- What a file and events give from a state on: the answers, and the state reached. On an unreadable plan nothing is played.

unfoldable pub answers_of : Got Plan → State → List Event → List Answer
answers_of (form f) σ events = []
answers_of (got p at rest) σ events = history ours p σ events

unfoldable pub state_after : Got Plan → State → List Event → State
state_after (form f) σ events = σ
state_after (got p at rest) σ events = reached ours p σ events

unfoldable pub lines_of : Got Plan → State → List Event → List ℕ
lines_of g σ events = joined answer_line (answers_of g σ events)

-- the first line: the form, the broken rule or `accepted`
unfoldable pub first_line : Got Plan → List ℕ
first_line (form f) = form_line f
first_line (got p at rest) = verdict_line (verdict p)

-- what is printed: a line for the plan and, where it reads, one for each event
unfoldable pub printed : List ℕ → List ℕ → List ℕ
printed file bytes = first_line (parse file) ++ lines_of (parse file) fresh (events_of bytes)

-- Between two reads stand the state of the box and the bytes of an unfinished event: at the start the fresh state, and none.

pub record Between : Type 0 where
  pub state : State
  pub unfinished : List ℕ

abbrev pub between : State → List ℕ → Between
between σ unfinished = record { state = σ; unfinished = unfinished }

abbrev pub begun : Between
begun = between fresh []

-- the events that the next bytes make whole
abbrev pub due : Between → List ℕ → List Event
due b bytes = whole_events (b.unfinished ++ bytes)

module _ (g : Got Plan) where
  -- The next bytes: the events that they make whole are played, and what is left over is unfinished.

  unfoldable pub fed : Between → List ℕ → Between
  fed b bytes = between (state_after g b.state (due b bytes)) (left_over (b.unfinished ++ bytes))

  unfoldable pub fed_lines : Between → List ℕ → List ℕ
  fed_lines b bytes = lines_of g b.state (due b bytes)

  -- The end of the input: what is unfinished is an incomplete event.

  unfoldable pub ended : Between → Between
  ended b = between (state_after g b.state (events_of b.unfinished)) []

  unfoldable pub end_lines : Between → List ℕ
  end_lines b = lines_of g b.state (events_of b.unfinished)

  -- Piece after piece, then the end.

  unfoldable pub after_pieces : Between → List (List ℕ) → Between
  after_pieces b [] = ended b
  after_pieces b (piece ∷ pieces) = after_pieces (fed b piece) pieces

  unfoldable pub piece_lines : Between → List (List ℕ) → List ℕ
  piece_lines b [] = end_lines b
  piece_lines b (piece ∷ pieces) = fed_lines b piece ++ piece_lines (fed b piece) pieces

-- the pieces one after the other
abbrev pub whole : List (List ℕ) → List ℕ
whole pieces = joined (λ piece. piece) pieces

-- Demand 3 from call to call: there are events that reach the state from the fresh one, with just these answers.
pub record FromFresh (p : Plan) (answers : List Answer) (σ : State) : Type 0 where
  pub events : List Event
  pub answered : history ours p fresh events ≡ answers
  pub state : reached ours p fresh events ≡ σ

-- Playing carries it on: where the plan is accepted and the answers before led to the state at entry, those and the answers of these events led to
-- the state at exit, and demand 3 holds of them all.
unfoldable pub Carries : Got Plan → State → List Event → State → Type 0
Carries (form f) σ events τ = Unit
Carries (got p at rest) σ events τ =
    let answers = history ours p σ events in
    verdict p ≡ Ok tt → (before : List Answer) → FromFresh p before σ → FromFresh p (before ++ answers) τ × Safe p (before ++ answers) τ

-- What is shown of sessions.
pub record Sessions : Type 0 where
  -- however the input is cut into pieces, the lines one after the other are what is printed for the whole, and the state is that of the whole
  pub any_cut : (file : List ℕ) (pieces : List (List ℕ)) → first_line (parse file) ++ piece_lines (parse file) begun pieces ≡ printed file (whole pieces)
  pub any_state : (file : List ℕ) (pieces : List (List ℕ)) → after_pieces (parse file) begun pieces ≡ between (state_after (parse file) fresh (events_of (whole pieces))) []
  -- and where the plan is accepted, demand 3 holds of what was answered and of the state at the end
  pub any_safe : (file : List ℕ) (pieces : List (List ℕ)) {p : Plan} {at : ℕ} {rest : List ℕ} → parse file ≡ got p at rest → verdict p ≡ Ok tt
      → Safe p (history ours p fresh (events_of (whole pieces))) (after_pieces (parse file) begun pieces).state
  -- the chain of calls starts at the fresh state, with no answers, and any events carry it on
  pub starts : (p : Plan) → FromFresh p [] fresh
  pub goes_on : (file : List ℕ) (σ : State) (events : List Event) → Carries (parse file) σ events (state_after (parse file) σ events)
  -- feeding bytes and then more leaves what feeding them at once leaves
  pub one_piece : (g : Got Plan) (b : Between) (bytes more : List ℕ) → fed g (fed g b bytes) more ≡ fed g b (bytes ++ more)
