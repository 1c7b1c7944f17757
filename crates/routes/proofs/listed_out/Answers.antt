-- `routes::listed_out`: for the one lie or the other.
use Rattle.std.proofs.Common.{◌∙◌, ap, Bool, true, false, [], ◌∷◌, ◌||◌, rules, tests}
use Rattle.std.proofs.Math.Bool.{or-false}
use Rattle.std.proofs.lemmas.Iterator.{YieldsList-from_slice}
use Rattle.std.proofs.lemmas.Iterator.Search.{any_from_yields_List}
use Rattle.plan.specs.Image.{plan_of}
use Rattle.rules.specs.Rules.{wants_out, listed_out}
use Rattle.routes.proofs.listed_out.Goals as goal

pub returns : goal.returns
unfolding listed_out wants_out
returns c =
    let test = λ (lie : Bool). wants_out (plan_of c.args.image.now) c.args.route c.args.point lie c.args.to in
    any_from_yields_List test _ _ _ c.any.ensures.ran (YieldsList-from_slice (false ∷ true ∷ []) cc) (λ x b q k. search (rules, tests)) ∙ ap (λ (b : Bool). test false || b) (or-false (test true))
