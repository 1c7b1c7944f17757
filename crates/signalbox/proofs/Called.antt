-- What calls write one after the other is what is printed, by their contracts alone. Assumes nothing.
use mathlib.Core.Path.{◌≡◌, sym, ap, ◌∙◌}
use mathlib.Core.List.{List, [], ◌∷◌, ◌++◌}
use Prim.Native.Nat.{ℕ, ◌+◌}
use native.Mathlib.Nat.{zero-add}
use native.Mathlib.Omega.{arith}
use lib.ListN.{length, take, drop}
use lib.Seq.{sets-eq, take-append_seam}
use Rattle.plan.specs.Records.{Plan}
use Rattle.reading.specs.Reading.{Got, parse}
use Rattle.state.specs.declared.State.{State}
use Rattle.state.specs.State.{fresh}
use Rattle.events.specs.Events.{left_over, unfinished_cells}
use Rattle.events.proofs.Pieces.{left_few, cells_hold}
use Rattle.events.specs.declared.Event.{Event}
use Rattle.lines.specs.Lines.{answer_line}
use Rattle.laws.specs.Written.{Wrote}
use Rattle.demands.specs.Session.{Between, between, begun, due, state_after, lines_of, Carries, fed, fed_lines, end_lines, piece_lines, first_line}
use Rattle.demands.proofs.Session.{sessions}
use Rattle.signalbox.specs.declared.Outcome.{Outcome}
use Rattle.signalbox.specs.Face.{Started, unless, Played, standing, Feeds, Finishes}
use Rattle.signalbox.specs.Calls.{Says, AsPrinted, CallsSafe}

-- what was written at the start of a buffer stands there
wrote_first : {bytes before after : List ℕ} {n : ℕ} → Wrote bytes before 0 after n → take n after ≡ bytes
wrote_first {bytes = bytes} {before = before} w =
    let n : _ ≡ length bytes = w.ends ∙ zero-add _ in
    let e = w.written ∙ sets-eq bytes before 0 (omega (arith, w.ends, w.within)) in
    rw (n, e) (take-append_seam bytes (drop (0 + length bytes) before))

-- and nothing was against it
wrote_all : {reason : ℕ} {lines out out' : List ℕ} {n : ℕ} → Wrote (unless reason lines []) out 0 out' n → reason ≡ 0 → take n out' ≡ lines
unfolding unless
wrote_all w z = wrote_first (rw z at w)

-- What a feed or a finish that was done has written, and what then stands between two reads.
module _ (file : List ℕ) (σ : State) (unfinished : List ℕ) where
  abbrev g : Got Plan
  g = parse file

  abbrev b : Between
  b = standing σ unfinished

  -- lines that were all played stand at the start of the buffer
  lines_said : {reason : ℕ} {events : List Event} {out : List ℕ} {r : Outcome} {τ : State} {out' : List ℕ} → Played answer_line g σ reason events out r τ out' → r.code ≡ 0
      → take r.written out' ≡ lines_of g σ events
  unfolding unless lines_of
  lines_said p z = wrote_first (rw (sym p.code ∙ z) at p.written)

  module _ (bytes : List ℕ) {out : List ℕ} {r : Outcome} {τ : State} {unfinished' out' : List ℕ} (f : Feeds g σ unfinished bytes out r τ unfinished' out') (z : r.code ≡ 0) where
    pub feed_said : take r.written out' ≡ fed_lines g b bytes
    unfolding fed_lines
    feed_said = lines_said f.played z

    pub feed_stands : standing τ unfinished' ≡ fed g b bytes
    unfolding unless fed
    feed_stands =
        let free = sym f.played.code ∙ z in
        let k : unfinished' ≡ unfinished_cells (left_over (b.unfinished ++ bytes)) = rw free at f.kept in
        let s : τ ≡ state_after g σ (due b bytes) = rw free at f.played.state in
        rw (s, k, cells_hold (left_over (b.unfinished ++ bytes)) (left_few (b.unfinished ++ bytes)))

  pub finish_said : {out : List ℕ} {r : Outcome} {τ : State} {unfinished' out' : List ℕ} → Finishes g σ unfinished out r τ unfinished' out' → r.code ≡ 0
      → take r.written out' ≡ end_lines g b
  unfolding end_lines
  finish_said f z = lines_said f.played z

-- Calls one after the other write the lines of their pieces.
says_lines : (file : List ℕ) (σ : State) (unfinished : List ℕ) (pieces : List (List ℕ)) (lines : List ℕ) → Says file σ unfinished pieces lines
    → lines ≡ piece_lines (parse file) (standing σ unfinished) pieces
unfolding Says piece_lines
says_lines file σ unfinished [] lines (c, z, f, e) = e ∙ finish_said file σ unfinished f z
says_lines file σ unfinished (piece ∷ pieces) lines (c, more, z, f, w, e) =
    let s = feed_stands file σ unfinished piece f z in
    let m = says_lines file c.state c.unfinished pieces more w ∙ ap (λ (x : Between). piece_lines (parse file) x pieces) s in
    e ∙ rw (feed_said file σ unfinished piece f z, m)

-- At the start stands the fresh state, and nothing unfinished.
starts_begun : (σ : State) (unfinished : List ℕ) → Started σ unfinished → standing σ unfinished ≡ begun
starts_begun σ unfinished s =
    ap (λ (τ : State). standing τ unfinished) s.state
    ∙ ap (λ (cells : List ℕ). standing fresh cells) s.none
    ∙ ap (between fresh) (cells_hold [] (omega arith))

pub as_printed : AsPrinted
as_printed file pieces σ unfinished begins out r out' o z lines w =
    let first : take r.written out' ≡ first_line (parse file) = wrote_all o.written (sym o.code ∙ z) in
    let rest = says_lines file σ unfinished pieces lines w ∙ ap (λ (y : Between). piece_lines (parse file) y pieces) (starts_begun σ unfinished begins) in
    rw (first, rest) (sessions.any_cut file pieces)

-- What each contract carries on is demand 3.
pub calls_safe : CallsSafe
unfolding Carries
calls_safe = record {
  step = λ file e v before σ from event r τ s. ((rw e at s.carries) v before from).1;
  run = λ file e v before σ from write reason events out r τ out' p. ((rw e at p.carries) v before from).1;
}
