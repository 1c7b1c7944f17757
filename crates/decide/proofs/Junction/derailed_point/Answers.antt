-- `Junction::derailed_point`: the lower of the first of each list.
use Rattle.std.proofs.Common.{sym, ◌∙◌}
use Rattle.decide.proofs.Along.{within, lower_both, derailed_first}
use Rattle.decide.proofs.Junction.derailed_point.Goals as goal

pub returns : goal.returns
returns c =
    c.lower.ensures ∙ lower_both c.derailed_in.ensures c.derailed_in-2.ensures ∙ sym (derailed_first _ _ _ c.requires.0 c.requires.1 _ _)

pub derailed_in-requires : goal.derailed_in-requires
derailed_in-requires c = within _ c.args.self.readable.tracks.few c.requires.0

pub derailed_in-requires-2 : goal.derailed_in-requires-2
derailed_in-requires-2 c = within _ c.args.self.readable.tracks.few c.requires.1
