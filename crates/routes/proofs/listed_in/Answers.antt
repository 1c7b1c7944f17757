-- `routes::listed_in`: for the one lie or the other.
use Rattle.std.proofs.Common.{◌∙◌, ap, Bool, true, false, [], ◌∷◌, ◌||◌, rules, tests}
use Rattle.std.proofs.Math.Bool.{or-false}
use Rattle.std.proofs.lemmas.Iterator.{YieldsList-from_slice}
use Rattle.std.proofs.lemmas.Iterator.Search.{any_from_yields_List}
use Rattle.plan.specs.Image.{plan_of}
use Rattle.rules.specs.Rules.{wants_in, listed_in}
use Rattle.routes.proofs.listed_in.Goals as goal

pub returns : goal.returns
unfolding listed_in wants_in
returns c =
    let test = λ (lie : Bool). wants_in (plan_of c.args.image.now) c.args.route c.args.point lie c.args.from in
    any_from_yields_List test _ _ _ c.any.ensures.ran (YieldsList-from_slice (false ∷ true ∷ []) cc) (λ x b q k. search (rules, tests)) ∙ ap (λ (b : Bool). test false || b) (or-false (test true))
