-- `act::Due::trains`: case by case, one cell written is the table of the cells with that one changed.
use lib.ListN.{length-set}
use Rattle.act.proofs.Named.{entered_below, to_below, from_below, left_below}
use Rattle.act.proofs.Acts.{trains_kept, entered_trains, moved_trains, left_trains}
use Rattle.act.proofs.Due.trains.Goals as goal

pub bounds-trains-track : goal.bounds-trains-track
bounds-trains-track c = entered_below _ _ c.args.self.ready _ c.requires c.in-Entered.is

pub bounds-trains-to : goal.bounds-trains-to
bounds-trains-to c = to_below _ _ c.args.self.ready _ c.requires c.in-Moved.is

pub bounds-trains-from : goal.bounds-trains-from
bounds-trains-from c = simp length-set (from_below _ _ c.args.self.ready _ c.requires c.in-Moved.is)

pub bounds-trains-from-in-Left : goal.bounds-trains-from-in-Left
bounds-trains-from-in-Left c = left_below _ _ c.args.self.ready _ c.requires c.in-Left.is

pub returns-in-Entered : goal.returns-in-Entered
returns-in-Entered c = entered_trains _ _ c.requires c.in-Entered.is

pub returns-in-Moved : goal.returns-in-Moved
returns-in-Moved c = moved_trains _ _ c.requires c.in-Moved.is

pub returns-in-Left : goal.returns-in-Left
returns-in-Left c = left_trains _ _ c.requires c.in-Left.is

pub returns-in-Granted : goal.returns-in-Granted
returns-in-Granted c = trains_kept _ c.args.self.deed c.in-Granted.is
