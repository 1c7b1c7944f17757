-- `Junction::go`: the tests in order; the first that applies answers, and past the last the train goes on.
use Rattle.std.proofs.Common.{rules, tests, sym, ◌∙◌, arith}
use Rattle.laws.specs.Search.{unless}
use Rattle.plan.specs.Image.{plan_of}
use Rattle.state.specs.Cells.{lies_in}
use Rattle.events.specs.Decide.{move_to, move_from, answer_move, decided}
use Rattle.decide.proofs.Within.{front_within, next_within}
use Rattle.decide.proofs.Told.{same_refusal, held, failed, nothing, met, missing, refused, harmed, so, not_so, front_here}
use Rattle.decide.proofs.Junction.go.Goals as goal

pub returns-in_err-ensure : goal.returns-in_err-ensure
unfolding decided
returns-in_err-ensure c holds =
    refused _ c.from_residual.ensures.1 ∙ rw (so (failed _ c.in_err-ensure.ensures).0, (failed _ c.in_err-ensure.ensures).1)

pub returns-in_err-from : goal.returns-in_err-from
unfolding decided answer_move unless
returns-in_err-from c holds =
    refused _ c.from_residual-in_err-from.ensures.1 ∙ rw (
      not_so (held _ _ c.in_ok-ensure.ensures),
      front_here (plan_of c.args.self.image.now) _ _ c.front_of.ensures ∙ c.in_err-from.ensures.ok_part,
    ) (same_refusal (missing c.in_err-from.ensures.ok_part c.in_err-from.ensures.value))

pub returns-in_err-stop_at : goal.returns-in_err-stop_at
unfolding decided answer_move move_from unless
returns-in_err-stop_at c holds =
    let found = met _ c.red_at.result c.map.result c.map.ensures.cases c.in_err-stop_at.ensures in
    refused _ c.from_residual-in_err-stop_at.ensures.1 ∙ rw (
      not_so (held _ _ c.in_ok-ensure.ensures),
      front_here (plan_of c.args.self.image.now) _ _ c.front_of.ensures ∙ c.in_ok-from.ensures.ok_part,
      sym c.red_at.ensures ∙ found.1,
    ) (same_refusal (search (rules, tests, found.2)))

pub returns-then-is_exit : goal.returns-then-is_exit
unfolding decided answer_move move_from unless
returns-then-is_exit c holds =
    rw (
      not_so (held _ _ c.in_ok-ensure.ensures),
      front_here (plan_of c.args.self.image.now) _ _ c.front_of.ensures ∙ c.in_ok-from.ensures.ok_part,
      sym c.red_at.ensures ∙ (nothing _ _ _ c.map.ensures.cases c.in_ok-stop_at.ensures),
      sym c.is_exit.ensures ∙ c.if-is_exit.true,
    )

pub next_track-to-requires : goal.next_track-to-requires
next_track-to-requires c =
    let here = front_within (plan_of c.args.self.image.now) _ _ (front_here (plan_of c.args.self.image.now) _ _ c.front_of.ensures ∙ c.in_ok-from.ensures.ok_part) in
    omega (arith, here, c.args.self.readable.tracks.few)

pub has_train-requires : goal.has_train-requires
has_train-requires c =
    let R = c.args.self.readable in
    let here = front_within (plan_of c.args.self.image.now) _ _ (front_here (plan_of c.args.self.image.now) _ _ c.front_of.ensures ∙ c.in_ok-from.ensures.ok_part) in
    omega (arith, c.next_track-to.ensures, next_within R here (sym c.is_exit.ensures ∙ c.if-is_exit.false) (lies_in c.args.self.cells.now), R.tracks.few)

pub returns-in_err-ensure-2 : goal.returns-in_err-ensure-2
unfolding decided answer_move move_from move_to unless
returns-in_err-ensure-2 c holds =
    harmed _ c.from_residual-in_err-ensure-2.ensures.1 ∙ rw (
      not_so (held _ _ c.in_ok-ensure.ensures),
      front_here (plan_of c.args.self.image.now) _ _ c.front_of.ensures ∙ c.in_ok-from.ensures.ok_part,
      sym c.red_at.ensures ∙ (nothing _ _ _ c.map.ensures.cases c.in_ok-stop_at.ensures),
      sym c.is_exit.ensures ∙ c.if-is_exit.false,
      ← c.next_track-to.ensures,
      sym c.has_train.ensures ∙ so (failed _ c.in_err-ensure-2.ensures).0,
      (failed _ c.in_err-ensure-2.ensures).1,
    )

pub runs_through-requires : goal.runs_through-requires
runs_through-requires c =
    let R = c.args.self.readable in
    let here = front_within (plan_of c.args.self.image.now) _ _ (front_here (plan_of c.args.self.image.now) _ _ c.front_of.ensures ∙ c.in_ok-from.ensures.ok_part) in
    omega (arith, c.next_track-to.ensures, next_within R here (sym c.is_exit.ensures ∙ c.if-is_exit.false) (lies_in c.args.self.cells.now), R.tracks.few)

pub returns-in_err-ensure-3 : goal.returns-in_err-ensure-3
unfolding decided answer_move move_from move_to unless
returns-in_err-ensure-3 c holds =
    harmed _ c.from_residual-in_err-ensure-3.ensures.1 ∙ rw (
      not_so (held _ _ c.in_ok-ensure.ensures),
      front_here (plan_of c.args.self.image.now) _ _ c.front_of.ensures ∙ c.in_ok-from.ensures.ok_part,
      sym c.red_at.ensures ∙ (nothing _ _ _ c.map.ensures.cases c.in_ok-stop_at.ensures),
      sym c.is_exit.ensures ∙ c.if-is_exit.false,
      ← c.next_track-to.ensures,
      sym c.has_train.ensures ∙ not_so (held _ _ c.in_ok-ensure-2.ensures),
      sym c.runs_through.ensures ∙ so (failed _ c.in_err-ensure-3.ensures).0,
      (failed _ c.in_err-ensure-3.ensures).1,
    )

pub returns : goal.returns
unfolding decided answer_move move_from move_to unless
returns c holds =
    rw (
      not_so (held _ _ c.in_ok-ensure.ensures),
      front_here (plan_of c.args.self.image.now) _ _ c.front_of.ensures ∙ c.in_ok-from.ensures.ok_part,
      sym c.red_at.ensures ∙ (nothing _ _ _ c.map.ensures.cases c.in_ok-stop_at.ensures),
      sym c.is_exit.ensures ∙ c.if-is_exit.false,
      ← c.next_track-to.ensures,
      sym c.has_train.ensures ∙ not_so (held _ _ c.in_ok-ensure-2.ensures),
      sym c.runs_through.ensures ∙ not_so (held _ _ c.in_ok-ensure-3.ensures),
    )
