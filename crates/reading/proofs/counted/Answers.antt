-- `reading::counted`: the count, then the things.
use Rattle.std.proofs.Common.{◌∙◌, rules}
use Rattle.reading.proofs.Scanned.{counted_byte, steps_refused, steps_passed}
use Rattle.reading.proofs.counted.Goals as goal

pub returns-in_err-first : goal.returns-in_err-first
returns-in_err-first g c one says = steps_refused one _ _ _ _ c.count_of.ensures (search rules) c.in_err-first.was

pub bounds-file-from : goal.bounds-file-from
bounds-file-from g c = (counted_byte _ _ _ _ c.count_of.ensures c.in_ok-first.was).byte.within

pub returns : goal.returns
returns g c one says = c.many.ensures one says ∙ steps_passed one _ _ _ _ c.count_of.ensures c.in_ok-first.was c.from.ensures
