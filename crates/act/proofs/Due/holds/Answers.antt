-- `act::Due::holds`: case by case, what the walks leave is the table of the state after; an entry drops nothing.
use mathlib.Core.Path.{ap, ◌∙◌}
use lib.ListN.{length}
use Rattle.laws.specs.Tables.{length_tab}
use Rattle.act.proofs.Named.{granted_normal, granted_reverse}
use Rattle.act.proofs.Acts.{holds_kept, granted_holds, cancelled_holds, moved_holds}
use Rattle.act.proofs.Due.holds.Goals as goal

pub take-requires : goal.take-requires
take-requires c =
    granted_normal _ _ c.args.self.ready c.in-Granted.is c.args.holds.now c.told-holds
    c.normal_of.ensures

pub take-requires-in-Granted : goal.take-requires-in-Granted
take-requires-in-Granted c =
    granted_reverse _ _ c.args.self.ready c.in-Granted.is
    c.take.new.holds
    (ap length c.take.ensures ∙ length_tab _ _ ∙ c.told-holds) c.reverse_of.ensures

pub returns-in-Granted : goal.returns-in-Granted
returns-in-Granted c =
    granted_holds _ _ _ c.told-holds
    c.in-Granted.is
    c.normal_of.ensures
    c.reverse_of.ensures _ _ c.take.ensures
    c.take-in-Granted.ensures

pub returns-in-Cancelled : goal.returns-in-Cancelled
returns-in-Cancelled c =
    cancelled_holds _ _ _ c.told-holds
    c.in-Cancelled.is c.drop_all.ensures

pub returns-in-Moved : goal.returns-in-Moved
returns-in-Moved c =
    search (moved_holds)

pub returns-in-Entered : goal.returns-in-Entered
returns-in-Entered c = holds_kept _ _ c.args.self.deed c.in-Entered.is
