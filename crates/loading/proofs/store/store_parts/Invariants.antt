-- `loading::store::store_parts`: at each turn the parts left to store make the whole copy.
use Rattle.std.proofs.Common.{◌≡◌, ℕ, ◌+◌, ◌*◌, ◌-◌, List}
use Rattle.loading.specs.Storing.{IsCopy, StepsRoom, copied}
use Rattle.loading.proofs.store.store_parts.Given as goal

abbrev pub invariant-loop-i : goal.invariant-loop-i
invariant-loop-i g l =
    StepsRoom (goal.F-pre g l.store) (goal.F-post g l.store) l.size (l.i-end - l.i) l.at (l.to + 1 + l.size * l.i)
    × ((end : ℕ → ℕ) (copy : ℕ → ℕ → List ℕ → List ℕ) → IsCopy (goal.F-post g l.store) end copy
    → copied end copy l.size (l.i-end - l.i) l.at (l.to + 1 + l.size * l.i) l.image ≡ copied end copy l.size l.i-end l.initial.at (l.to + 1) l.initial.image)
