-- `Junction::derailed_in`: the first of the list that derails.
use Rattle.std.proofs.Common.{rules, tests}
use Rattle.std.proofs.lemmas.Iterator.{YieldsList-from_slice, YieldsList-from_map}
use Rattle.decide.proofs.Found.{first_found, all_callable, lent_below}
use Rattle.decide.proofs.Junction.derailed_in.Goals as goal

pub returns : goal.returns
returns c =
    first_found _ c.args.list.now _ _ _ c.find.ensures.ran
    (YieldsList-from_map _ _ (YieldsList-from_slice _ (cc)) c.map.ensures.closure (λ x r q k. search (rules, tests)))
    (λ x b q k. search (rules, tests))

pub find-requires-clause-callable : goal.find-requires-clause-callable
find-requires-clause-callable c =
    all_callable c.args.list.now c.requires
    (YieldsList-from_map _ _ (YieldsList-from_slice _ (cc)) c.map.ensures.closure (λ x r q k. search (rules, tests)))
    (λ x q k. search (rules, tests))
    (λ x below. search (lent_below below))
