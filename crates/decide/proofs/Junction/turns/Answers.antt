-- `Junction::turns`: the lie in the end by the reverse list first, then by the normal one; where neither has the point it keeps its lie.
use mathlib.Core.Path.{sym, ap, ◌∙◌}
use mathlib.Core.Bool.{not}
use Prim.Native.Nat.{ℕ}
use lib.Dec.{eqb}
use Rattle.decide.proofs.Cells.{turns_reverse, turns_normal, turns_unlisted}
use Rattle.decide.proofs.Junction.turns.Goals as goal

pub returns-then-has : goal.returns-then-has
returns-then-has c = ap (λ (x : ℕ). not (eqb x 1)) c.lie_at.ensures ∙ turns_reverse _ _ _ _ (sym c.has.ensures ∙ c.if-has.true)

pub returns-then-has-2 : goal.returns-then-has-2
returns-then-has-2 c =
    ap (λ (x : ℕ). not (eqb x 0)) c.lie_at-then-has-2.ensures ∙ turns_normal _ _ _ _ (sym c.has.ensures ∙ c.if-has.false) (sym c.has-else-has.ensures ∙ c.if-has-2.true)

pub returns-else-has-2 : goal.returns-else-has-2
returns-else-has-2 c = c.if-has-2.false ∙ turns_unlisted _ _ _ _ (sym c.has.ensures ∙ c.if-has.false) (sym c.has-else-has.ensures ∙ c.if-has-2.false)
