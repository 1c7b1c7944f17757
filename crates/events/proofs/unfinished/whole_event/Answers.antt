-- `events::unfinished::whole_event`: in the next bytes alone, or of bytes of both.
use mathlib.Core.Path.{refl, ap, ◌∙◌}
use native.Mathlib.Omega.{arith}
use lib.ListN.{drop}
use Rattle.events.specs.Events.{first_event}
use Rattle.events.proofs.Pieces.{place_most, event_next, event_first}
use Rattle.events.proofs.unfinished.whole_event.Goals as goal

pub overflow_mul-at : goal.overflow_mul-at
overflow_mul-at c =
    omega (arith, place_most c.args.unfinished.now c.args.bytes.now refl c.args.i c.requires, c.well_formed.1.0.1)

pub returns-in-Some : goal.returns-in-Some
returns-in-Some c =
    c.event_at.ensures
    ∙ ap (λ n. first_event (drop n c.args.bytes.now)) c.in-Some.ensures.1
    ∙ event_next c.args.unfinished.now c.args.bytes.now c.waiting.ensures c.args.i c.requires c.in-Some.ensures.0

pub returns-in-None : goal.returns-in-None
returns-in-None c =
    c.from.ensures
    ∙ event_first c.args.unfinished.now c.args.bytes.now c.waiting.ensures c.args.i c.requires c.byte_at.ensures
    c.byte_at-in-None.ensures c.byte_at-in-None-2.ensures
