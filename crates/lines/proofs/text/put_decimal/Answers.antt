-- `put_decimal`: a single digit, two, or those of a longer number.
use Rattle.lines.proofs.Runs.{wrote_digit, wrote_two}
use Rattle.lines.proofs.text.put_decimal.Goals as goal

pub returns-then-n-lt10 : goal.returns-then-n-lt10
returns-then-n-lt10 c = wrote_digit _ _ _ c.if-n-lt10.true c.requires

pub returns-then-n-lt100 : goal.returns-then-n-lt100
returns-then-n-lt100 c = wrote_two _ _ _ c.if-n-lt10.false c.if-n-lt100.true c.requires
