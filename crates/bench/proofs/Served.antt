-- A turn serves, and turns one after the other do. Assumes nothing.
use mathlib.Core.Path.{◌≡◌, refl, sym, ap, ◌∙◌, subst}
use mathlib.Core.List.{List, [], ◌∷◌, ◌++◌, append-nil}
use Prim.Native.Nat.{ℕ, ◌+◌, ◌*◌, ◌/◌, ◌≤◌}
use native.Mathlib.Omega.{arith}
use lib.ListN.{length, take, replicate, length-append, length-replicate}
use lib.Seq.{length-take-le}
use borrow.Author.Tests.{le-ltb}
use Rattle.plan.specs.Records.{Plan}
use Rattle.reading.specs.Reading.{Got, parse}
use Rattle.state.specs.declared.State.{State}
use Rattle.events.specs.Events.{events_of, whole_events, left_over, unfinished_in, unfinished_cells}
use Rattle.events.proofs.Pieces.{events_length, whole_length, left_few, waiting_count}
use Rattle.lines.specs.Lines.{line_most}
use Rattle.laws.specs.Written.{Wrote}
use Rattle.laws.specs.Written.{wrote_once}
use Rattle.demands.specs.Session.{state_after, first_line, lines_of, Between, due, fed, ended, end_lines}
use Rattle.demands.proofs.Session.{sessions, none_after}
use Rattle.codes.specs.Codes.{read_code}
use Rattle.signalbox.specs.declared.Outcome.{Outcome}
use Rattle.signalbox.specs.Face.{Started, too_many, unless, standing, Feeds, Finishes, open_reason, Opened}
use Rattle.signalbox.proofs.Playing.{line_free}
use Rattle.signalbox.proofs.Feeding.{short, brief, still_free, fresh_free}
use Rattle.signalbox.proofs.Called.{feed_stands}
use Rattle.signalbox.proofs.Once.{one_result}
use Rattle.std.specs.Prelude.{Result, Ok, Err}
use Rattle.bench.specs.declared.Told.{Told}
use Rattle.bench.specs.declared.Exchange.{Exchange}
use Rattle.bench.specs.Serving.{piece_most, lines_most, Serves, Served, Took, brought, Turned, ServedOn, Ended, TurnedOnce, ServedOnce, EndedOnce}

pub still : {n m most : ℕ} → n ≡ m → m ≤ most → n ≤ most
still e h = rw e h

-- What a read has brought stands in its buffer.
took_within : (read : Result ℕ Told) (bytes' : List ℕ) → Took read bytes' → brought read ≤ length bytes'
took_within (Ok n) bytes' t = t.0
took_within (Err told) bytes' t = omega arith

-- One turn: where there is room for a line for each three bytes with two more before them, all is played.
module _ (file bytes : List ℕ) {σ : State} {unfinished out : List ℕ} {r : Outcome} {τ : State} {unfinished' out' : List ℕ}
    (s : Serves (parse file) σ unfinished) (few : length bytes ≤ piece_most) (room : lines_most ≤ length out) (f : Feeds (parse file) σ unfinished bytes out r τ unfinished' out') where
  abbrev b : Between
  b = standing σ unfinished

  fits : length (due b bytes) ≤ length out / line_most
  fits =
      let w = whole_length (b.unfinished ++ bytes) in
      let n = length-append b.unfinished bytes in
      let c = waiting_count unfinished in
      omega arith

  played : Feeds (parse file) σ unfinished bytes out (record { code = 0; written = r.written }) τ unfinished' out'
  played =
      let done = f.played.code ∙ line_free (parse file) σ (due b bytes) (length out) unfinished s.free (short unfinished s.few) fits in
      subst (λ c. Feeds (parse file) σ unfinished bytes out (record { code = c; written = r.written }) τ unfinished' out') done f

pub turned : (file : List ℕ) {σ : State} {unfinished out : List ℕ} {read : Result ℕ Told} {n : ℕ} {bytes' : List ℕ} {r : Outcome} {τ : State} {unfinished' out' : List ℕ}
    → Serves (parse file) σ unfinished → n ≡ brought read → Took read bytes' → length bytes' ≤ piece_most → lines_most ≤ length out
    → Feeds (parse file) σ unfinished (take n bytes') out r τ unfinished' out' → Turned (parse file) σ unfinished out (record { read = read; written = r.written }) τ unfinished' bytes' out'
turned file {read = read} {n = n} {bytes' = bytes'} s e t most room f =
    let within = took_within read bytes' t in
    let few : length (take n bytes') ≤ piece_most = (let l = length-take-le n bytes' (still e within) in omega (arith, l, still e within)) in
    record { some = within; feeds = rw (sym e) (played file (take n bytes') s few room f) }

-- What a turn leaves is what its bytes give.
module _ (file : List ℕ) {σ : State} {unfinished lines : List ℕ} {r : Exchange} {τ : State} {unfinished' bytes' lines' : List ℕ} (t : Turned (parse file) σ unfinished lines r τ unfinished' bytes' lines') where
  turn_served : Serves (parse file) σ unfinished → Served (parse file) σ unfinished (take (brought r.read) bytes') τ unfinished'
  unfolding unless
  turn_served s =
      let bytes = take (brought r.read) bytes' in
      let b = standing σ unfinished in
      let z = sym t.feeds.played.code in
      let e : τ ≡ state_after (parse file) σ (due b bytes) = rw z at t.feeds.played.state in
      let k : unfinished' ≡ unfinished_cells (left_over (b.unfinished ++ bytes)) = rw z at t.feeds.kept in
      record {
        stands = feed_stands file σ unfinished bytes t.feeds refl;
        serves = record { free = rw e (still_free file σ (due b bytes) s.free); few = rw k (brief _ (left_few (b.unfinished ++ bytes))) };
      }

-- The program's buffer is so long.
pub full_piece : length (replicate {A = ℕ} piece_most 0) ≤ piece_most
full_piece = let l = length-replicate {A = ℕ} piece_most 0 in omega arith

-- Turns.

few_whole : (x : List ℕ) → length x ≤ 2 → whole_events x ≡ []
unfolding whole_events
few_whole [] h = refl
few_whole (a ∷ []) h = refl
few_whole (a ∷ (b ∷ [])) h = refl
few_whole (a ∷ (b ∷ (c ∷ x))) h = absurd (omega arith)

few_left : (x : List ℕ) → length x ≤ 2 → left_over x ≡ x
unfolding left_over
few_left [] h = refl
few_left (a ∷ []) h = refl
few_left (a ∷ (b ∷ [])) h = refl
few_left (a ∷ (b ∷ (c ∷ x))) h = absurd (omega arith)

served_start : (g : Got Plan) (σ : State) (unfinished : List ℕ) → Serves g σ unfinished → Served g σ unfinished [] σ unfinished
unfolding fed
served_start g σ unfinished s =
    let x = unfinished_in unfinished in
    let h : length x ≤ 2 = (let c = waiting_count unfinished in omega arith) in
    record { stands = rw (append-nil x, few_whole x h, few_left x h, none_after g σ); serves = s }

served_then : (g : Got Plan) {σ : State} {unfinished bytes : List ℕ} {τ : State} {unfinished' more : List ℕ} {υ : State} {unfinished'' : List ℕ}
    → Served g σ unfinished bytes τ unfinished' → Served g τ unfinished' more υ unfinished'' → Served g σ unfinished (bytes ++ more) υ unfinished''
served_then g {σ} {unfinished} {bytes} {more = more} a b = record {
  stands = b.stands ∙ ap (λ x. fed g x more) a.stands ∙ sessions.one_piece g (standing σ unfinished) bytes more;
  serves = b.serves;
}

-- What holds where a turn begins: all that was read so far was fed, and that is no more than the turns before it could read.
pub record Serving (g : Got Plan) (σ : State) (unfinished : List ℕ) (total turns : ℕ) (τ : State) (unfinished' : List ℕ) : Type 0 where
  pub on : ServedOn g σ unfinished total τ unfinished'
  pub room : total ≤ piece_most * turns

pub serving_start : (g : Got Plan) (σ : State) (unfinished : List ℕ) → Serves g σ unfinished → Serving g σ unfinished 0 0 σ unfinished
serving_start g σ unfinished s = record { on = record { bytes = []; many = refl; served = served_start g σ unfinished s }; room = omega arith }

module _ (file : List ℕ) {σ : State} {unfinished : List ℕ} {total turns : ℕ} {τ : State} {unfinished' : List ℕ} (l : Serving (parse file) σ unfinished total turns τ unfinished')
    {lines : List ℕ} {r : Exchange} {υ : State} {unfinished'' bytes' lines' : List ℕ} (t : Turned (parse file) τ unfinished' lines r υ unfinished'' bytes' lines') where
  pub serving_on : {count : ℕ} → count ≡ total + brought r.read → ServedOn (parse file) σ unfinished count υ unfinished''
  serving_on e = record {
    bytes = l.on.bytes ++ take (brought r.read) bytes';
    many = length-append l.on.bytes _ ∙ rw (l.on.many, length-take-le (brought r.read) bytes' t.some) (sym e);
    served = served_then (parse file) l.on.served (turn_served file t l.on.served.serves);
  }

  pub serving_turn : {count : ℕ} → count ≡ total + brought r.read → length bytes' ≤ piece_most → Serving (parse file) σ unfinished count (turns + 1) υ unfinished''
  serving_turn e few = let m = l.room in let k = t.some in record { on = serving_on e; room = omega arith }

-- The end: nothing is in the way of the last line.
pub ended_all : (file : List ℕ) {σ : State} {unfinished out : List ℕ} {r : Outcome} {τ : State} {unfinished' out' : List ℕ} → Serves (parse file) σ unfinished → line_most ≤ length out
    → Finishes (parse file) σ unfinished out r τ unfinished' out' → Ended (parse file) σ unfinished out r.written τ unfinished' out'
unfolding unless ended end_lines lines_of
ended_all file {σ} {unfinished} {out} s room f =
    let n = events_length (unfinished_in unfinished) in
    let c = waiting_count unfinished in
    let z = line_free (parse file) σ (events_of (unfinished_in unfinished)) (length out) unfinished s.free (short unfinished s.few) (omega arith) in
    record { state = rw z at f.played.state; none = rw z at f.kept; written = rw z at f.played.written }

-- One result.

pub turned_once : TurnedOnce
turned_once g σ unfinished lines r s τ υ unfinished' others bytes' lines' other e p q =
    let f : Feeds g σ unfinished (take (brought r.read) bytes') lines (record { code = 0; written = s.written }) υ others other = rw e q.feeds in
    let w = one_result.answered_once _ _ _ _ _ _ _ _ _ _ _ _ _ _ _ p.feeds f in
    (ap (λ (read : Result ℕ Told). exchange read r.written) e ∙ ap (λ (o : Outcome). exchange s.read o.written) w.0, w.1, w.2, w.3)
  where
    exchange : Result ℕ Told → ℕ → Exchange
    exchange read written = record { read = read; written = written }

pub served_once : ServedOnce
served_once g σ unfinished bytes τ υ unfinished' others p q = p.stands ∙ sym q.stands

pub ended_once : EndedOnce
ended_once g σ unfinished out r s τ υ unfinished' others out' other p q =
    let w = wrote_once _ _ _ _ _ _ _ p.written q.written in (w.1, p.state ∙ sym q.state, p.none ∙ sym q.none, w.0)

-- The first line has room.
pub first_all : (file : List ℕ) {out : List ℕ} {r : Outcome} {out' : List ℕ} → line_most ≤ length out → Opened (parse file) out r out' → Wrote (first_line (parse file)) out 0 out' r.written
unfolding unless open_reason too_many
first_all file {out = out} room o = rw (le-ltb (length out / line_most) 1 (omega arith)) at o.written

-- A session begins: the plan reads, and the state is the fresh one.
pub begins : (file : List ℕ) {σ : State} {unfinished : List ℕ} → Started σ unfinished → {code : ℕ} → code ≡ read_code (parse file) → code ≡ 0 → Serves (parse file) σ unfinished
unfolding unfinished_cells
begins file {σ = σ} s r z = record { free = fresh_free file σ s.state (sym r ∙ z); few = rw s.none (brief [] (omega arith)) }
