-- `Junction::request`: the tests in order; the first that applies answers, and past the last the route is granted.
use Rattle.std.proofs.Common.{rules, tests, sym, ◌∙◌, arith}
use borrow.Author.Tests.{ltb-true}
use Rattle.laws.specs.Search.{unless}
use Rattle.events.specs.Decide.{is_red, unless_train, answer_request, decided}
use Rattle.events.proofs.Facts.{start_below}
use Rattle.decide.proofs.Along.{clear_rising, normal_rising, reverse_rising}
use Rattle.decide.proofs.Told.{same_refusal, same_harm, held, failed, nothing, met, refused, harmed, by_count, shown_so}
use Rattle.decide.proofs.Junction.request.Goals as goal

pub returns-in_err-ensure : goal.returns-in_err-ensure
unfolding decided
returns-in_err-ensure c =
    refused _ c.from_residual.ensures.1 ∙ rw (by_count _ c.routes.ensures (failed _ c.in_err-ensure.ensures).0, (failed _ c.in_err-ensure.ensures).1)

pub shown_at-requires : goal.shown_at-requires
shown_at-requires c =
    let R = c.args.self.readable in
    omega (arith, c.start_of-start.ensures, start_below _ R c.args.route (ltb-true _ _ (by_count _ c.routes.ensures (held _ _ c.in_ok-ensure.ensures))), R.signals.few)

pub returns-in_err-ensure-2 : goal.returns-in_err-ensure-2
unfolding decided answer_request is_red
returns-in_err-ensure-2 c =
    refused _ c.from_residual-in_err-ensure-2.ensures.1 ∙ rw (
      by_count _ c.routes.ensures (held _ _ c.in_ok-ensure.ensures),
      shown_so _ _ c.start_of-start.ensures c.shown_at.ensures (failed _ c.in_err-ensure-2.ensures).0,
      (failed _ c.in_err-ensure-2.ensures).1,
    )

pub busy_train-requires : goal.busy_train-requires
busy_train-requires c = rw c.clear_of-clear.ensures (clear_rising c.args.self.readable (ltb-true _ _ (by_count _ c.routes.ensures (held _ _ c.in_ok-ensure.ensures))))

pub returns-in_err-stop_at : goal.returns-in_err-stop_at
unfolding decided answer_request is_red unless_train unless
returns-in_err-stop_at c =
    let found = met _ c.busy_train.result c.map.result c.map.ensures.cases c.in_err-stop_at.ensures in
    refused _ c.from_residual-in_err-stop_at.ensures.1 ∙ rw (
      by_count _ c.routes.ensures (held _ _ c.in_ok-ensure.ensures),
      shown_so _ _ c.start_of-start.ensures c.shown_at.ensures (held _ _ c.in_ok-ensure-2.ensures),
      ← c.clear_of-clear.ensures,
      sym c.busy_train.ensures ∙ found.1,
    ) (same_refusal (search (rules, tests, found.2)))

pub held_point-requires : goal.held_point-requires
held_point-requires c =
    let listed = ltb-true _ _ (by_count _ c.routes.ensures (held _ _ c.in_ok-ensure.ensures)) in (
      rw c.normal_of.ensures (normal_rising c.args.self.readable listed),
      rw c.reverse_of.ensures (reverse_rising c.args.self.readable listed),
    )

pub returns-in_err-stop_at-2 : goal.returns-in_err-stop_at-2
unfolding decided answer_request is_red unless_train unless
returns-in_err-stop_at-2 c =
    let found = met _ c.held_point.result c.map-2.result c.map-2.ensures.cases c.in_err-stop_at-2.ensures in
    refused _ c.from_residual-in_err-stop_at-2.ensures.1 ∙ rw (
      by_count _ c.routes.ensures (held _ _ c.in_ok-ensure.ensures),
      shown_so _ _ c.start_of-start.ensures c.shown_at.ensures (held _ _ c.in_ok-ensure-2.ensures),
      ← c.clear_of-clear.ensures,
      sym c.busy_train.ensures ∙ (nothing _ _ _ c.map.ensures.cases c.in_ok-stop_at.ensures),
      ← c.normal_of.ensures,
      ← c.reverse_of.ensures,
      sym c.held_point.ensures ∙ found.1,
    ) (same_refusal (search (rules, tests, found.2)))

pub derailed_point-requires : goal.derailed_point-requires
derailed_point-requires c =
    let listed = ltb-true _ _ (by_count _ c.routes.ensures (held _ _ c.in_ok-ensure.ensures)) in (
      rw c.normal_of.ensures (normal_rising c.args.self.readable listed),
      rw c.reverse_of.ensures (reverse_rising c.args.self.readable listed),
    )

pub returns-in_err-stop_at-3 : goal.returns-in_err-stop_at-3
unfolding decided answer_request is_red unless_train unless
returns-in_err-stop_at-3 c =
    let found = met _ c.derailed_point.result c.map-3.result c.map-3.ensures.cases c.in_err-stop_at-3.ensures in
    harmed _ c.from_residual-in_err-stop_at-3.ensures.1 ∙ rw (
      by_count _ c.routes.ensures (held _ _ c.in_ok-ensure.ensures),
      shown_so _ _ c.start_of-start.ensures c.shown_at.ensures (held _ _ c.in_ok-ensure-2.ensures),
      ← c.clear_of-clear.ensures,
      sym c.busy_train.ensures ∙ (nothing _ _ _ c.map.ensures.cases c.in_ok-stop_at.ensures),
      ← c.normal_of.ensures,
      ← c.reverse_of.ensures,
      sym c.held_point.ensures ∙ (nothing _ _ _ c.map-2.ensures.cases c.in_ok-stop_at-2.ensures),
      sym c.derailed_point.ensures ∙ found.1,
    ) (same_harm (search (rules, tests, found.2)))

pub returns : goal.returns
unfolding decided answer_request is_red unless_train unless
returns c =
    rw (
      by_count _ c.routes.ensures (held _ _ c.in_ok-ensure.ensures),
      shown_so _ _ c.start_of-start.ensures c.shown_at.ensures (held _ _ c.in_ok-ensure-2.ensures),
      ← c.clear_of-clear.ensures,
      sym c.busy_train.ensures ∙ (nothing _ _ _ c.map.ensures.cases c.in_ok-stop_at.ensures),
      ← c.normal_of.ensures,
      ← c.reverse_of.ensures,
      sym c.held_point.ensures ∙ (nothing _ _ _ c.map-2.ensures.cases c.in_ok-stop_at-2.ensures),
      sym c.derailed_point.ensures ∙ (nothing _ _ _ c.map-3.ensures.cases c.in_ok-stop_at-3.ensures),
    )
