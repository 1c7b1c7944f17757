-- `HoldSet::has`: the route's bit, shifted down; beyond the number's bits there is no member.
use native.Mathlib.Omega.{arith}
use mathlib.Core.Path.{sym}
use borrow.Author.Tests.{le-ltb}
use Rattle.laws.specs.Sets.{member_shifted}
use Rattle.state.specs.Holds.{room}
use Rattle.state.proofs.Holds.{member_beyond}
use Rattle.state.proofs.HoldSet.has.Goals as goal

pub returns-then-route-lt-ROOM : goal.returns-then-route-lt-ROOM
returns-then-route-lt-ROOM c = member_shifted c.args.self.routes c.args.route

pub returns-else-route-lt-ROOM : goal.returns-else-route-lt-ROOM
returns-else-route-lt-ROOM c = rw (le-ltb c.args.route room c.if-route-lt-ROOM.false) (sym (member_beyond room c.args.self.routes c.args.route (omega (arith, c.well_formed)) c.if-route-lt-ROOM.false))
