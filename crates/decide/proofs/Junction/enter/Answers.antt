-- `Junction::enter`: the tests in order; the first that applies answers, and past the last the train enters.
use Rattle.std.proofs.Common.{rules, tests, sym, ◌∙◌, arith}
use borrow.Author.Tests.{ltb-true}
use Rattle.plan.specs.Image.{plan_of}
use Rattle.events.specs.Decide.{unless_train, in_plan, answer_enter, decided}
use Rattle.events.proofs.Facts.{entry_below}
use Rattle.decide.proofs.Along.{entry_rising}
use Rattle.decide.proofs.Told.{same_refusal, held, failed, nothing, met, refused, harmed, so, not_so, by_count, front_here, is_in, is_out}
use Rattle.decide.proofs.Junction.enter.Goals as goal

pub returns-in_err-ensure : goal.returns-in_err-ensure
unfolding decided
returns-in_err-ensure c holds =
    refused _ c.from_residual.ensures.1 ∙ rw (by_count _ c.entries.ensures (failed _ c.in_err-ensure.ensures).0, (failed _ c.in_err-ensure.ensures).1)

pub returns-in_err-ensure-2 : goal.returns-in_err-ensure-2
unfolding decided
returns-in_err-ensure-2 c holds =
    refused _ c.from_residual-in_err-ensure-2.ensures.1 ∙ rw (
      by_count _ c.entries.ensures (held _ _ c.in_ok-ensure.ensures),
      so (failed _ c.in_err-ensure-2.ensures).0,
      (failed _ c.in_err-ensure-2.ensures).1,
    )

pub returns-in_err-ensure-3 : goal.returns-in_err-ensure-3
unfolding decided answer_enter in_plan
returns-in_err-ensure-3 c holds =
    refused _ c.from_residual-in_err-ensure-3.ensures.1 ∙ rw (
      by_count _ c.entries.ensures (held _ _ c.in_ok-ensure.ensures),
      not_so (held _ _ c.in_ok-ensure-2.ensures),
      front_here (plan_of c.args.self.image.now) _ _ c.front_of.ensures,
      is_in _ c.is_none.ensures (failed _ c.in_err-ensure-3.ensures).0,
      (failed _ c.in_err-ensure-3.ensures).1,
    )

pub busy_train-requires : goal.busy_train-requires
busy_train-requires c = rw c.entry_clear-clear.ensures (entry_rising c.args.self.readable (ltb-true _ _ (by_count _ c.entries.ensures (held _ _ c.in_ok-ensure.ensures))))

pub returns-in_err-stop_at : goal.returns-in_err-stop_at
unfolding decided answer_enter in_plan unless_train
returns-in_err-stop_at c holds =
    let found = met _ c.busy_train.result c.map.result c.map.ensures.cases c.in_err-stop_at.ensures in
    refused _ c.from_residual-in_err-stop_at.ensures.1 ∙ rw (
      by_count _ c.entries.ensures (held _ _ c.in_ok-ensure.ensures),
      not_so (held _ _ c.in_ok-ensure-2.ensures),
      front_here (plan_of c.args.self.image.now) _ _ c.front_of.ensures,
      is_out _ c.is_none.ensures (held _ _ c.in_ok-ensure-3.ensures),
      ← c.entry_clear-clear.ensures,
      sym c.busy_train.ensures ∙ found.1,
    ) (same_refusal (search (rules, tests, found.2)))

pub has_train-requires : goal.has_train-requires
has_train-requires c =
    let R = c.args.self.readable in
    omega (arith, c.entry_track-track.ensures, entry_below _ R c.args.entry (ltb-true _ _ (by_count _ c.entries.ensures (held _ _ c.in_ok-ensure.ensures))), R.tracks.few)

pub returns-in_err-ensure-4 : goal.returns-in_err-ensure-4
unfolding decided answer_enter in_plan unless_train
returns-in_err-ensure-4 c holds =
    harmed _ c.from_residual-in_err-ensure-4.ensures.1 ∙ rw (
      by_count _ c.entries.ensures (held _ _ c.in_ok-ensure.ensures),
      not_so (held _ _ c.in_ok-ensure-2.ensures),
      front_here (plan_of c.args.self.image.now) _ _ c.front_of.ensures,
      is_out _ c.is_none.ensures (held _ _ c.in_ok-ensure-3.ensures),
      ← c.entry_clear-clear.ensures,
      sym c.busy_train.ensures ∙ (nothing _ _ _ c.map.ensures.cases c.in_ok-stop_at.ensures),
      ← c.entry_track-track.ensures,
      sym c.has_train.ensures ∙ so (failed _ c.in_err-ensure-4.ensures).0,
      (failed _ c.in_err-ensure-4.ensures).1,
    )

pub returns : goal.returns
unfolding decided answer_enter in_plan unless_train
returns c holds =
    rw (
      by_count _ c.entries.ensures (held _ _ c.in_ok-ensure.ensures),
      not_so (held _ _ c.in_ok-ensure-2.ensures),
      front_here (plan_of c.args.self.image.now) _ _ c.front_of.ensures,
      is_out _ c.is_none.ensures (held _ _ c.in_ok-ensure-3.ensures),
      ← c.entry_clear-clear.ensures,
      sym c.busy_train.ensures ∙ (nothing _ _ _ c.map.ensures.cases c.in_ok-stop_at.ensures),
      ← c.entry_track-track.ensures,
      sym c.has_train.ensures ∙ not_so (held _ _ c.in_ok-ensure-4.ensures),
    )
