-- `reading::count_of`: the tests stand in the order of the definition.
use Rattle.std.proofs.Common.{rules}
use Rattle.reading.proofs.Scanned.{count_absent, count_unfit, count_good}
use Rattle.reading.proofs.count_of.Goals as goal

pub returns-in_err-found : goal.returns-in_err-found
returns-in_err-found c = count_absent _ _ _ _ c.byte_at.ensures (search rules) c.in_err-found.was

pub returns-then-found-least : goal.returns-then-found-least
returns-then-found-least c = count_unfit _ _ _ _ c.byte_at.ensures c.in_ok-found.was c.then-found-least.either

pub returns : goal.returns
returns c = count_good _ _ _ _ c.byte_at.ensures c.in_ok-found.was c.if-found-least.false c.if-most-found.false
