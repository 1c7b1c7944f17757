-- `Junction::cancel`: the tests in order; the first that applies answers, and past the last the route is cancelled.
use Rattle.std.proofs.Common.{sym, ◌∙◌, arith, add-one}
use borrow.Author.Tests.{ltb-true}
use Rattle.events.specs.Decide.{is_green, answer_cancel, decided}
use Rattle.events.proofs.Facts.{start_below, home_below}
use Rattle.decide.proofs.Told.{held, failed, refused, so, not_so, by_count, shown_so, home_here}
use Rattle.decide.proofs.Junction.cancel.Goals as goal

pub returns-in_err-ensure : goal.returns-in_err-ensure
unfolding decided
returns-in_err-ensure c holds =
    refused _ c.from_residual.ensures.1 ∙ rw (by_count _ c.routes.ensures (failed _ c.in_err-ensure.ensures).0, (failed _ c.in_err-ensure.ensures).1)

pub shown_at-requires : goal.shown_at-requires
shown_at-requires c =
    let R = c.args.self.readable in
    omega (arith, c.start_of-start.ensures, start_below _ R c.args.route (ltb-true _ _ (by_count _ c.routes.ensures (held _ _ c.in_ok-ensure.ensures))), R.signals.few)

pub returns-in_err-ensure-2 : goal.returns-in_err-ensure-2
unfolding decided answer_cancel is_green
returns-in_err-ensure-2 c holds =
    refused _ c.from_residual-in_err-ensure-2.ensures.1 ∙ rw (
      by_count _ c.routes.ensures (held _ _ c.in_ok-ensure.ensures),
      shown_so _ _ c.start_of-start.ensures (c.from-shown.ensures ∙ c.shown_at.ensures) (rw add-one at (failed _ c.in_err-ensure-2.ensures).0),
      (failed _ c.in_err-ensure-2.ensures).1,
    )

pub has_train-requires : goal.has_train-requires
has_train-requires c =
    let R = c.args.self.readable in
    let s = start_below _ R c.args.route (ltb-true _ _ (by_count _ c.routes.ensures (held _ _ c.in_ok-ensure.ensures))) in
    omega (arith, home_here _ c.start_of-start.ensures c.home_of-home.ensures, home_below _ R _ s, R.tracks.few)

pub returns-in_err-ensure-3 : goal.returns-in_err-ensure-3
unfolding decided answer_cancel is_green
returns-in_err-ensure-3 c holds =
    refused _ c.from_residual-in_err-ensure-3.ensures.1 ∙ rw (
      by_count _ c.routes.ensures (held _ _ c.in_ok-ensure.ensures),
      shown_so _ _ c.start_of-start.ensures (c.from-shown.ensures ∙ c.shown_at.ensures) (rw add-one at (held _ _ c.in_ok-ensure-2.ensures)),
      home_here _ c.start_of-start.ensures c.home_of-home.ensures,
      sym c.has_train.ensures ∙ so (failed _ c.in_err-ensure-3.ensures).0,
      (failed _ c.in_err-ensure-3.ensures).1,
    )

pub returns : goal.returns
unfolding decided answer_cancel is_green
returns c holds =
    rw (
      by_count _ c.routes.ensures (held _ _ c.in_ok-ensure.ensures),
      shown_so _ _ c.start_of-start.ensures (c.from-shown.ensures ∙ c.shown_at.ensures) (rw add-one at (held _ _ c.in_ok-ensure-2.ensures)),
      home_here _ c.start_of-start.ensures c.home_of-home.ensures,
      sym c.has_train.ensures ∙ not_so (held _ _ c.in_ok-ensure-3.ensures),
    )
