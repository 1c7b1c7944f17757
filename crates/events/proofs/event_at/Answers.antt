-- `event_at`: three bytes are left from the offset on, or fewer.
use mathlib.Core.Path.{◌≡◌, refl, ap, ◌∙◌}
use lib.ListN.{drop}
use Rattle.events.specs.Events.{first_event}
use Rattle.events.proofs.Bytes.{event_few, event_three, rest_from}
use Rattle.events.proofs.event_at.Goals as goal

pub returns-in-len3-up : goal.returns-in-len3-up
returns-in-len3-up c =
    let rest : c.unwrap_or.result.now ≡ drop c.args.at c.args.bytes.now = rw c.unwrap_or.ensures (rest_from _ _ _ _ c.get.ensures.lookup refl) in
    c.from.ensures ∙ event_three _ c.in-len3-up.len_at_least ∙ ap first_event rest

pub returns-in_default : goal.returns-in_default
returns-in_default c =
    let rest : c.unwrap_or.result.now ≡ drop c.args.at c.args.bytes.now = rw c.unwrap_or.ensures (rest_from _ _ _ _ c.get.ensures.lookup refl) in
    event_few _ c.in_default.len_below ∙ ap first_event rest
