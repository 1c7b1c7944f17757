-- `routes::links`: the chain over the places of the path is the definition's test of every place.
use Rattle.std.proofs.Common.{◌∙◌, ap, List, ℕ, length, rules, tests}
use Rattle.laws.specs.Search.{all_below}
use Rattle.laws.specs.Walks.{all_in_range}
use Rattle.plan.specs.Image.{plan_of}
use Rattle.rules.specs.Rules.{linked_at}
use Rattle.routes.proofs.links.Goals as goal

pub returns : goal.returns
returns c =
    let test = linked_at (plan_of c.args.image.now) c.args.route in
    all_in_range test _ _ _ _ c.all.ensures.ran (λ x b q k. search (rules, tests)) ∙ ap (λ (l : List ℕ). all_below (length l) test) c.path_of.ensures
