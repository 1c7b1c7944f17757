-- `Junction::signal_at`: the lowest signal whose home the track is.
use Rattle.std.proofs.Common.{rules, tests}
use Rattle.plan.specs.Layout.{signal_at}
use Rattle.laws.specs.Walks.{lowest_in_range}
use Rattle.decide.proofs.Junction.signal_at.Goals as goal

pub returns : goal.returns
unfolding signal_at
returns c = rw (← c.signals.ensures) (lowest_in_range _ _ _ _ _ c.find.ensures.ran (λ x b q k. search (rules, tests)))
