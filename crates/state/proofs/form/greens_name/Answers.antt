-- `form::greens_name`: there is a cell for each signal; the chain over the signals is the definition's test of every number.
use Rattle.std.proofs.Common.{◌∙◌, ap, rules, tests}
use Rattle.std.proofs.iter.Serving.{serving}
use Rattle.laws.specs.Search.{all_below}
use Rattle.plan.specs.Image.{plan_of}
use Rattle.plan.proofs.View.{signals_most}
use Rattle.state.specs.State.{named_at, greens_name}
use Rattle.state.specs.Cells.{signals_in}
use Rattle.laws.specs.Walks.{all_in_range}
use Rattle.state.proofs.form.greens_name.Goals as goal

pub all-requires-clause-callable : goal.all-requires-clause-callable
all-requires-clause-callable c = let few = signals_most c.args.image.now in grind serving

pub returns : goal.returns
unfolding greens_name named_at
returns c =
    let test = named_at (plan_of c.args.image.now) (signals_in c.args.cells.now) in
    all_in_range test _ _ _ _ c.all.ensures.ran (λ x b q k. search (rules, tests)) ∙ ap (λ n. all_below n test) c.signals.ensures
