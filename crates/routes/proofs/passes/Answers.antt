-- `routes::passes`: no track of the path but the last is a home.
use Rattle.std.proofs.Common.{◌≡◌, ◌∙◌, ◌-◌, sym, ap, ℕ, not, length, arith, rules, tests}
use Rattle.std.proofs.lemmas.Iterator.{YieldsList-from_slice}
use Rattle.std.proofs.lemmas.Iterator.Search.{all_from_yields_List}
use Rattle.laws.specs.Search.{all_below}
use Rattle.laws.specs.Walks.{below_start}
use Rattle.plan.specs.Routes.{path_length}
use Rattle.plan.specs.Image.{plan_of}
use Rattle.plan.specs.Layout.{is_home}
use Rattle.rules.specs.Rules.{no_home_at}
use Rattle.routes.proofs.Ways.{passed_read}
use Rattle.routes.proofs.passes.Goals as goal

pub returns-in-None : goal.returns-in-None
returns-in-None c =
    let nothing : path_length (plan_of c.args.image.now) c.args.route - 1 ≡ 0 = omega (arith, ap length c.path_of.ensures, c.in-None.ensures.cases) in
    sym (ap (λ n. all_below n (no_home_at (plan_of c.args.image.now) c.args.route)) nothing ∙ below_start _)

pub returns-in-Some : goal.returns-in-Some
returns-in-Some c =
    let test = λ (u : ℕ). not (is_home (plan_of c.args.image.now) u) in
    let tested = all_from_yields_List test _ _ _ c.all.ensures.ran (YieldsList-from_slice c.in-Some.passed.now cc) (λ x b q k. search (rules, tests)) in
    tested ∙ passed_read (plan_of c.args.image.now) c.args.route _ _ c.path_of.ensures c.in-Some.ensures.cases.0
