-- `checking::tracks::first_pair`: the rows passed are led to as they may be; in a row, so far, no track leads there that must not.
use Rattle.std.specs.Prelude.{None}
use Prim.Native.Nat.{ℕ, ◌-◌}
use mathlib.Core.Bool.{Bool, not}
use mathlib.Core.List.{List}
use mathlib.Core.Path.{◌≡◌}
use Rattle.laws.specs.Search.{lowest, lowest_from}
use Rattle.plan.specs.Image.{plan_of}
use Rattle.rules.specs.Rules.{led_once}
use Rattle.checking.proofs.Pairs.{Led}
use Rattle.checking.proofs.tracks.first_pair.Given as goal

-- A track that others lead to as they must not.
abbrev pub misled : List ℕ → ℕ → Bool
misled image = λ v. not (led_once (plan_of image) v)

abbrev pub invariant-loop-from : goal.invariant-loop-from
invariant-loop-from l = Led (plan_of l.image) l.to l.from l.first × (l.row ≡ None)

abbrev pub decreases-loop-from : goal.decreases-loop-from
decreases-loop-from l = l.count - l.from

abbrev pub invariant-pairs : goal.invariant-pairs
invariant-pairs l = (lowest_from (misled l.image) (l.count - l.to) l.to ≡ lowest l.count (misled l.image)) × (l.row ≡ None)

abbrev pub decreases-pairs : goal.decreases-pairs
decreases-pairs l = l.count - l.to
