-- The program between two reads: what a turn begins with, and what a turn, any turns and the end leave. Which bytes a read hands over is the C library's
-- affair.
use Rattle.std.specs.Prelude.{◌≡◌, Result, Ok, Err, IfOk, List, [], length, take, ℕ, ◌+◌, ◌*◌, ◌/◌, ◌≤◌}
use Rattle.std.specs.Result.{result_unwrap_or}
use Rattle.plan.specs.Records.{Plan}
use Rattle.reading.specs.Reading.{Got}
use Rattle.state.specs.declared.State.{State}
use Rattle.events.specs.Events.{unfinished_cells}
use Rattle.lines.specs.Lines.{line_most}
use Rattle.laws.specs.Written.{Wrote}
use Rattle.demands.specs.Session.{fed, ended, end_lines}
use Rattle.signalbox.specs.Face.{in_the_way, too_long, standing, Feeds}
use Rattle.io.specs.Counts.{IsPrefixLen}
use Rattle.bench.specs.declared.Told.{Told}
use Rattle.bench.specs.declared.Exchange.{Exchange}

-- The most bytes that one read takes; with two bytes before them they make so many events whole, and there is room for the lines of these.

abbrev pub piece_most : ℕ
piece_most = 3072

abbrev pub lines_most : ℕ
lines_most = (piece_most + 2) / 3 * line_most

-- A turn may begin: no reason is there against feeding but too little room.
pub record Serves (g : Got Plan) (σ : State) (unfinished : List ℕ) : Type 0 where
  pub free : in_the_way g σ ≡ 0
  pub few : too_long unfinished ≡ 0

-- These bytes were fed, from whatever stood there at first, and what stands there now is what they give.
pub record Served (g : Got Plan) (σ : State) (unfinished bytes : List ℕ) (τ : State) (unfinished' : List ℕ) : Type 0 where
  pub stands : standing τ unfinished' ≡ fed g (standing σ unfinished) bytes
  pub serves : Serves g τ unfinished'

-- A read: so many bytes stand at the start of the buffer, none where it failed.
abbrev pub Took : Result ℕ Told → List ℕ → Type 0
Took r bytes' = IfOk r (λ read. IsPrefixLen read bytes')

-- How many bytes a read has brought: none where it failed.
abbrev pub brought : Result ℕ Told → ℕ
brought r = result_unwrap_or r 0

-- A turn: the bytes that now stand at the start of the one buffer were fed, all of them, with the other for their lines. Where the read failed there
-- are none.
pub record Turned (g : Got Plan) (σ : State) (unfinished lines : List ℕ) (r : Exchange) (τ : State) (unfinished' bytes' lines' : List ℕ) : Type 0 where
  pub some : brought r.read ≤ length bytes'
  pub feeds : Feeds g σ unfinished (take (brought r.read) bytes') lines (record { code = 0; written = r.written }) τ unfinished' lines'

-- How many bytes were read, whether the input has ended or was broken off.
abbrev pub total : Result ℕ ℕ → ℕ
total (Ok count) = count
total (Err count) = count

-- After any number of turns there are bytes of which this holds, as many as were read. A program that leaves the same state, or nothing unfinished,
-- whatever it began with, doesn't meet this (proofs/Anew.antt).
pub record ServedOn (g : Got Plan) (σ : State) (unfinished : List ℕ) (count : ℕ) (τ : State) (unfinished' : List ℕ) : Type 0 where
  pub bytes : List ℕ
  pub many : length bytes ≡ count
  pub served : Served g σ unfinished bytes τ unfinished'

-- The end of the input: the line of an incomplete event, and nothing is unfinished.
pub record Ended (g : Got Plan) (σ : State) (unfinished out : List ℕ) (r : ℕ) (τ : State) (unfinished' out' : List ℕ) : Type 0 where
  pub state : τ ≡ (ended g (standing σ unfinished)).state
  pub none : unfinished' ≡ unfinished_cells []
  pub written : Wrote (end_lines g (standing σ unfinished)) out 0 out' r

-- Given what was read, and whether that failed, a turn leaves one state, one unfinished event and the same lines; given which bytes were fed, any turns leave one that stands;
-- and so does the end (proofs/Served.antt).

abbrev pub TurnedOnce : Type 0
TurnedOnce =
    (g : Got Plan) (σ : State) (unfinished lines : List ℕ) (r s : Exchange) (τ υ : State) (unfinished' others bytes' lines' other : List ℕ) → r.read ≡ s.read
    → Turned g σ unfinished lines r τ unfinished' bytes' lines' → Turned g σ unfinished lines s υ others bytes' other
    → (r ≡ s) × (τ ≡ υ) × (unfinished' ≡ others) × (lines' ≡ other)

abbrev pub ServedOnce : Type 0
ServedOnce =
    (g : Got Plan) (σ : State) (unfinished bytes : List ℕ) (τ υ : State) (unfinished' others : List ℕ)
    → Served g σ unfinished bytes τ unfinished' → Served g σ unfinished bytes υ others → standing τ unfinished' ≡ standing υ others

abbrev pub EndedOnce : Type 0
EndedOnce =
    (g : Got Plan) (σ : State) (unfinished out : List ℕ) (r s : ℕ) (τ υ : State) (unfinished' others out' other : List ℕ)
    → Ended g σ unfinished out r τ unfinished' out' → Ended g σ unfinished out s υ others other → (r ≡ s) × (τ ≡ υ) × (unfinished' ≡ others) × (out' ≡ other)
