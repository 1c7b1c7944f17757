-- `put_number`: the word, then the digits.
use Rattle.laws.specs.Written.{wrote_then}
use Rattle.lines.proofs.text.put_number.Goals as goal

pub returns : goal.returns
returns c = wrote_then c.put_bytes-next.ensures c.put_decimal.ensures
