-- `act::redden`: the signals passed are red where they stand on the track, the others are as they were.
use mathlib.Core.Path.{sym, ap, ◌∙◌}
use native.Mathlib.Omega.{arith}
use lib.ListN.{length}
use Rattle.plan.specs.Image.{plan_of}
use Rattle.plan.proofs.View.{signals_most}
use Rattle.act.proofs.Walks.{done_none, done_set, done_same, done_all}
use Rattle.act.proofs.Acts.{red_here, red_other, red_beyond}
use Rattle.act.proofs.redden.Goals as goal
use Rattle.act.proofs.redden.Goals.{then-from, else-from}

pub loop-signal-init : goal.loop-signal-init
loop-signal-init c = done_none _ _

pub bounds-signals-signal : goal.bounds-signals-signal
bounds-signals-signal c =
    omega (arith, c.loop-signal.auto.signals, c.requires, signals_most c.args.image.now, ap length c.homes-home-items.ensures, c.loop-signal-test.true)

pub loop-signal-preserved : goal.loop-signal-preserved
loop-signal-preserved c =
    let homes = c.homes-home-items.ensures in
    elim c.if-from.branch [
      | then-from w ↦ w.signals-is ∙ done_set _ c.args.signals.now _ _ c.loop-signal.invariant _
          (red_here (plan_of c.args.image.now) _ _ _ homes c.loop-signal-test.true (sym c.from.ensures ∙ w.if-from.true))
      | else-from w ↦ w.signals-is ∙ done_same _ c.args.signals.now _ _ c.loop-signal.invariant
          (red_other (plan_of c.args.image.now) _ _ _ homes (λ e. w.if-from.false (c.from.ensures ∙ e)))
    ]

pub returns : goal.returns
returns c =
    done_all _ c.args.signals.now _ _ c.loop-signal.invariant
    (λ k h l. red_beyond (plan_of c.args.image.now) _ _ k c.homes-home-items.ensures (omega (arith, c.loop-signal-test.false))) ∙ rw c.requires
