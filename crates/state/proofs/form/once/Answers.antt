-- `form::once`: the chain over the tracks is the definition's test of every number.
use Rattle.std.proofs.Common.{not, rules, tests}
use Rattle.state.specs.State.{again, once}
use Rattle.laws.specs.Walks.{all_in_range}
use Rattle.state.proofs.form.once.Goals as goal

pub returns : goal.returns
unfolding once
returns c = all_in_range (λ u. not (again c.args.trains.now u)) _ _ _ _ c.all.ensures.ran (λ x b q k. search (rules, tests))
