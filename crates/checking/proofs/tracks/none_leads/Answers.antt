-- `checking::tracks::none_leads`: the chain over the tracks is the definition's test of every number.
use Rattle.std.proofs.Common.{◌∙◌, ap, ℕ, not, rules, tests}
use Rattle.laws.specs.Search.{all_below}
use Rattle.laws.specs.Walks.{all_in_range}
use Rattle.plan.specs.Image.{plan_of}
use Rattle.plan.specs.Layout.{leads}
use Rattle.rules.specs.Rules.{none_leads}
use Rattle.checking.proofs.tracks.none_leads.Goals as goal

pub returns : goal.returns
unfolding none_leads
returns c =
    let test = λ (u : ℕ). not (leads (plan_of c.args.image.now) u c.args.to) in
    all_in_range test _ _ _ _ c.all.ensures.ran (λ x b q k. search (rules, tests)) ∙ ap (λ n. all_below n test) c.tracks.ensures
