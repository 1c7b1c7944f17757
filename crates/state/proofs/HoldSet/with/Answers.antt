-- `HoldSet::with`: a route that has room and is not there yet has its bit added; any other changes nothing.
use native.Mathlib.Omega.{arith}
use mathlib.Core.Path.{sym, ◌∙◌}
use Rattle.laws.specs.Sets.{including_same, including_add, including_lt, one_shifted}
use Rattle.state.specs.Holds.{room}
use Rattle.state.proofs.Holds.{adding_there, adding_beyond}
use Rattle.state.proofs.HoldSet.with.Goals as goal
use Rattle.state.proofs.HoldSet.with.Goals.{else-route-lt-ROOM-via-then-route-lt-ROOM+else-not-has, else-route-lt-ROOM-via-else-route-lt-ROOM}

pub overflow_add-self : goal.overflow_add-self
overflow_add-self c =
    let m = c.args.self.routes in
    let r = c.args.route in
    let h = c.if-route-lt-ROOM.true in
    let e = sym c.has.ensures ∙ c.if-not-has.true in
    omega (arith, one_shifted r h, including_add m r e, including_lt room m r (omega arith) h)

pub returns-then-not-has : goal.returns-then-not-has
returns-then-not-has c =
    let m = c.args.self.routes in
    let r = c.args.route in
    let h = c.if-route-lt-ROOM.true in
    let e = sym c.has.ensures ∙ c.if-not-has.true in
    c.from.ensures ∙ rw (one_shifted r h, including_add m r e) (sym (adding_there m r h))

pub returns : goal.returns
returns c =
    elim c.else-route-lt-ROOM.branch [
      | else-route-lt-ROOM-via-then-route-lt-ROOM+else-not-has w ↦ sym (adding_there _ _ w.if-route-lt-ROOM.true ∙ including_same _ _ (sym w.has.ensures ∙ w.if-not-has.false))
      | else-route-lt-ROOM-via-else-route-lt-ROOM w ↦ sym (adding_beyond _ _ w.if-route-lt-ROOM.false)
    ]
