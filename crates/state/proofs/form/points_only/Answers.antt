-- `form::points_only`: there is a cell for each track; the chain over the tracks is the definition's test of every number.
use Rattle.std.proofs.Common.{◌∙◌, ap, rules, tests}
use Rattle.std.proofs.iter.Serving.{serving}
use Rattle.laws.specs.Search.{all_below}
use Rattle.plan.specs.Image.{plan_of}
use Rattle.plan.proofs.View.{tracks_most}
use Rattle.state.specs.State.{point_or, points_only}
use Rattle.state.specs.Cells.{lies_in}
use Rattle.laws.specs.Walks.{all_in_range}
use Rattle.state.proofs.form.points_only.Goals as goal

pub all-requires-clause-callable : goal.all-requires-clause-callable
all-requires-clause-callable c = let few = tracks_most c.args.image.now in grind serving

pub returns : goal.returns
unfolding points_only
returns c =
    let test = point_or (plan_of c.args.image.now) (lies_in c.args.cells.now) c.args.holds.now in
    all_in_range test _ _ _ _ c.all.ensures.ran (λ x b q k. search (rules, tests)) ∙ ap (λ n. all_below n test) c.tracks.ensures
