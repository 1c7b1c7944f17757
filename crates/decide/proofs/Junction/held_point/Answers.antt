-- `Junction::held_point`: the lower of the first of each list.
use Rattle.std.proofs.Common.{sym, ◌∙◌}
use Rattle.decide.proofs.Along.{within, lower_both, held_first}
use Rattle.decide.proofs.Junction.held_point.Goals as goal

pub returns : goal.returns
returns c =
    c.lower.ensures ∙ lower_both c.held_in.ensures c.held_in-2.ensures ∙ sym (held_first _ _ _ c.requires.0 c.requires.1 _ _)

pub held_in-requires : goal.held_in-requires
held_in-requires c = within _ c.args.self.readable.tracks.few c.requires.0

pub held_in-requires-2 : goal.held_in-requires-2
held_in-requires-2 c = within _ c.args.self.readable.tracks.few c.requires.1
