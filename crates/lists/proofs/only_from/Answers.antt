-- `lists::only_from`: the fold over all that is looked at says what holds of each element.
use Rattle.std.proofs.Common.{◌∙◌, true, ◌&&◌, drop, rules, tests}
use Rattle.std.proofs.lemmas.Iterator.{YieldsList-from_slice}
use Rattle.std.proofs.lemmas.Iterator.Consumers.{fold_from_yields_List}
use Rattle.lists.proofs.Walks.{rest_from, fold_all}
use Rattle.lists.proofs.only_from.Goals as goal

pub returns : goal.returns
returns g c =
    let is = λ (x : g.row.T.Denot). g.T.PartialEq.eq x c.args.value in
    let looked_at = drop c.args.from c.args.list.now in
    fold_from_yields_List _ (λ b x. b && is x) true _ c.fold.ensures.ran
    (YieldsList-from_slice looked_at (c.iter.ensures.rest ∙ rest_from c.args.list.now c.args.from c.min.ensures)) (λ a x b q k. search (rules, tests))
    ∙ fold_all is true looked_at
