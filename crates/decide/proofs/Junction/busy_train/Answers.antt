-- `Junction::busy_train`: the first of a list that rises is the lowest.
use Rattle.std.proofs.Common.{sym, ◌∙◌}
use Rattle.decide.proofs.Along.{within, busy_first}
use Rattle.decide.proofs.Junction.busy_train.Goals as goal

pub returns : goal.returns
returns c = c.busy_in.ensures ∙ sym (busy_first _ _ _ c.requires)

pub busy_in-requires : goal.busy_in-requires
busy_in-requires c = within _ c.args.self.readable.tracks.few c.requires
