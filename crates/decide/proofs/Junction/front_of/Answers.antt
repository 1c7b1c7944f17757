-- `Junction::front_of`: the lowest track on which the train stands.
use Rattle.std.proofs.Common.{rules, tests}
use Rattle.events.specs.Decide.{stands}
use Rattle.laws.specs.Walks.{lowest_in_range}
use Rattle.decide.proofs.Junction.front_of.Goals as goal

pub returns : goal.returns
unfolding stands
returns c = rw (← c.tracks.ensures) (lowest_in_range _ _ _ _ _ c.find.ensures.ran (λ x b q k. search (rules, tests)))
