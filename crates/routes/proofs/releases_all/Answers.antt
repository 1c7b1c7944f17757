-- `routes::releases_all`: the pairs of the image are the releases, one by one.
use Rattle.std.proofs.Common.{◌∙◌, List, ℕ, get_or, rules, tests}
use Rattle.std.proofs.lemmas.Iterator.{YieldsList-from_slice}
use Rattle.std.proofs.lemmas.Iterator.Search.{all_from_yields_List}
use Rattle.plan.specs.Image.{plan_of}
use Rattle.rules.specs.Rules.{release_fits}
use Rattle.routes.proofs.Ways.{pairs_all}
use Rattle.routes.proofs.releases_all.Goals as goal

pub returns : goal.returns
returns c =
    let fits = release_fits (plan_of c.args.image.now) c.args.route in
    let test = λ (a : List ℕ). fits (get_or a 0 0) (get_or a 1 0) in
    let tested = all_from_yields_List test _ _ _ c.all.ensures.ran (YieldsList-from_slice c.as_chunks.result.0.now cc) (λ x b q k. search (rules, tests)) in
    tested ∙ pairs_all _ c.releases_of.ensures c.as_chunks.ensures.front fits
