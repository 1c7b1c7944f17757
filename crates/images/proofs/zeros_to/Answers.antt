-- `images::zeros_to`: the zeros are looked at together, and where that fails byte by byte.
use mathlib.Core.Path.{sym, ◌∙◌}
use Rattle.images.proofs.Zeros.{zeros_found}
use Rattle.images.proofs.zeros_to.Goals as goal

pub returns-then-zeros_in : goal.returns-then-zeros_in
returns-then-zeros_in c = zeros_found _ _ _ (sym c.zeros_in.ensures ∙ c.if-zeros_in.true)
