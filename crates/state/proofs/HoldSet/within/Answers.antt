-- `HoldSet::within`: what is left of the set when the lower routes are shifted out is nothing exactly if none is higher.
use native.Mathlib.Omega.{arith}
use mathlib.Core.Path.{sym}
use borrow.Author.Tests.{le-leb}
use Rattle.state.specs.Holds.{room}
use Rattle.state.proofs.Holds.{within_shifted, within_room}
use Rattle.state.proofs.HoldSet.within.Goals as goal

pub returns-then-routes-ge-ROOM : goal.returns-then-routes-ge-ROOM
returns-then-routes-ge-ROOM c = rw (le-leb room c.args.routes c.if-routes-ge-ROOM.true) (sym (within_room _ room _ (omega (arith, c.well_formed)) c.if-routes-ge-ROOM.true))

pub returns-else-routes-ge-ROOM : goal.returns-else-routes-ge-ROOM
returns-else-routes-ge-ROOM c = within_shifted c.args.routes c.args.self.routes
