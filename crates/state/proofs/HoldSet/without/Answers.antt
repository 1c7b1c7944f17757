-- `HoldSet::without`: a route that is there has its bit taken away; any other changes nothing.
use native.Mathlib.Omega.{arith}
use mathlib.Core.Path.{sym, ◌∙◌}
use Rattle.laws.specs.Sets.{excluding_same, excluding_add, one_shifted}
use Rattle.state.specs.Holds.{room}
use Rattle.state.proofs.Holds.{member_room}
use Rattle.state.proofs.HoldSet.without.Goals as goal

pub overflow_shl-route : goal.overflow_shl-route
overflow_shl-route c = member_room room _ _ (omega (arith, c.well_formed)) (sym c.has.ensures ∙ c.if-has.true)

pub overflow_sub-self : goal.overflow_sub-self
overflow_sub-self c =
    let m = c.args.self.routes in
    let r = c.args.route in
    let e = sym c.has.ensures ∙ c.if-has.true in
    omega (arith, one_shifted r (member_room room m r (omega arith) e), excluding_add m r e)

pub returns-then-has : goal.returns-then-has
returns-then-has c =
    let m = c.args.self.routes in
    let r = c.args.route in
    let e = sym c.has.ensures ∙ c.if-has.true in
    omega (arith, one_shifted r (member_room room m r (omega arith) e), excluding_add m r e)

pub returns : goal.returns
returns c = sym (excluding_same _ _ (sym c.has.ensures ∙ c.if-has.false))
