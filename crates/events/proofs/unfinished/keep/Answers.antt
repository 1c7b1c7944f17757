-- `events::unfinished::keep`: the bytes from the last whole event on, and how many they are.
use mathlib.Core.Path.{refl}
use native.Mathlib.Omega.{arith}
use Rattle.events.proofs.Pieces.{few, whole_most, left_kept}
use Rattle.events.proofs.unfinished.keep.Goals as goal

pub overflow_mul-at : goal.overflow_mul-at
overflow_mul-at c =
    omega (arith, whole_most c.args.unfinished.now c.args.bytes.now refl, c.whole_count-at.ensures, c.well_formed.1.0.1)

pub overflow_add-left : goal.overflow_add-left
overflow_add-left c =
    omega (arith, few c.args.unfinished.now c.args.bytes.now c.waiting.ensures, c.well_formed.1.0.1)

pub overflow_add-at : goal.overflow_add-at
overflow_add-at c =
    omega (arith, whole_most c.args.unfinished.now c.args.bytes.now refl, c.whole_count-at.ensures, c.well_formed.1.0.1)

pub returns : goal.returns
returns c =
    left_kept c.args.unfinished.now c.args.bytes.now c.waiting.ensures c.whole_count-at.ensures c.byte_at.ensures
    c.byte_at-2.ensures
