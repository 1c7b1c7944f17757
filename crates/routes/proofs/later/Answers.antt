-- `routes::later`: the point does not stand from the track on, if the track is on the path at all.
use Rattle.std.specs.List.{position}
use Rattle.std.proofs.Common.{◌≡◌, ◌-◌, sym, ◌∙◌, ap, not, eqb, take, drop, length, take_all, length-drop, arith, rules, tests}
use Rattle.std.proofs.lemmas.Iterator.{YieldsList-from_slice}
use Rattle.std.proofs.lemmas.Iterator.Search.{position_from_yields_List}
use Rattle.laws.specs.Lists.{has}
use Rattle.routes.proofs.Paths.{later_found, later_absent}
use Rattle.routes.proofs.later.Goals as goal

pub returns-in-None : goal.returns-in-None
returns-in-None c =
    let at : c.position.result ≡ position (λ u. eqb u c.args.track) c.args.path.now = position_from_yields_List (λ u. eqb u c.args.track) _ _ _ c.position.ensures.ran (YieldsList-from_slice c.args.path.now cc) (λ x b q k. search (rules, tests)) in
    sym (later_absent c.args.track c.args.point c.args.path.now (sym at ∙ c.in-None.is))

pub returns-in-Some : goal.returns-in-Some
returns-in-Some c =
    let path = c.args.path.now in
    let i = c.in-Some.i in
    let at : c.position.result ≡ position (λ u. eqb u c.args.track) path = position_from_yields_List (λ u. eqb u c.args.track) _ _ _ c.position.ensures.ran (YieldsList-from_slice path cc) (λ x b q k. search (rules, tests)) in
    let rest : take (length path - i) (drop i path) ≡ drop i path = take_all (length path - i) (drop i path) (omega (arith, length-drop i path)) in
    ap not (c.has.ensures ∙ ap (has c.args.point) rest) ∙ sym (later_found c.args.track c.args.point path (sym at ∙ c.in-Some.is))
