-- `checking::each`: what is found is the lowest row at which the test fails.
use Rattle.std.proofs.Common.{◌∙◌, ap, not, Ok, rules, tests}
use Rattle.laws.specs.Search.{unless}
use Rattle.laws.specs.Walks.{lowest_in_range}
use Rattle.rules.specs.Verdict.{broken}
use Rattle.checking.proofs.each.Goals as goal

pub returns : goal.returns
returns g c = λ test computes.
    c.broken_by.ensures ∙ ap (λ o. unless o (broken c.args.rule) (Ok tt)) (lowest_in_range (λ i. not (test i)) c.args.rows _ _ _ c.find.ensures.ran (λ x b q k. search (rules, tests, computes)))
