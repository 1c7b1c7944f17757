-- `act::Due::lies`: the normal list turned, then the reverse list, is the lie in the end; any other answer turns nothing.
use mathlib.Core.Path.{ap, ◌∙◌}
use lib.ListN.{length}
use Rattle.laws.specs.Tables.{length_tab}
use Rattle.act.proofs.Named.{granted_normal, granted_reverse}
use Rattle.act.proofs.Acts.{lies_kept, granted_lies}
use Rattle.act.proofs.Due.lies.Goals as goal

pub returns-in_default : goal.returns-in_default
returns-in_default c = search (lies_kept)

pub turn-requires : goal.turn-requires
turn-requires c =
    granted_normal _ _ c.args.self.ready c.in-Granted.is c.args.lies.now c.requires
    c.normal_of.ensures

pub turn-requires-2 : goal.turn-requires-2
turn-requires-2 c =
    granted_reverse _ _ c.args.self.ready c.in-Granted.is
    c.turn.new.lies
    (ap length c.turn.ensures ∙ length_tab _ _ ∙ c.requires) c.reverse_of.ensures

pub returns : goal.returns
returns c =
    granted_lies _ _ _ c.requires
    c.in-Granted.is
    c.normal_of.ensures
    c.reverse_of.ensures _ _ c.turn.ensures
    c.turn-2.ensures
