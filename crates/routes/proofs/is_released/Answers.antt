-- `routes::is_released`: the pairs of the image are the releases, one by one.
use Rattle.std.proofs.Common.{◌∙◌, List, ℕ, eqb, get_or, rules, tests}
use Rattle.std.proofs.lemmas.Iterator.{YieldsList-from_slice}
use Rattle.std.proofs.lemmas.Iterator.Search.{any_from_yields_List}
use Rattle.plan.specs.Routes.{released}
use Rattle.routes.proofs.Ways.{pairs_any}
use Rattle.routes.proofs.is_released.Goals as goal

pub returns : goal.returns
unfolding released
returns c =
    let tested = any_from_yields_List (λ (a : List ℕ). eqb (get_or a 1 0) c.args.point) _ _ _ c.any.ensures.ran (YieldsList-from_slice c.as_chunks.result.0.now cc) (λ x b q k. search (rules, tests)) in
    tested ∙ pairs_any _ c.releases_of.ensures c.as_chunks.ensures.front (λ track point. eqb point c.args.point)
