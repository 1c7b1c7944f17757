-- `loading::store::store_parts`: at each turn the parts left to store make the whole copy.
use mathlib.Core.Path.{refl, ◌∙◌}
use native.Mathlib.Nat.{mul-le-mul_left, mul-suc}
use Rattle.std.proofs.Common.{◌≡◌, ◌+◌, ◌≤◌, get_or, rules, arith, of_calls}
use Rattle.loading.proofs.Copying.{steps_now, steps_on, copied_on, copied_end}
use Rattle.loading.proofs.store.store_parts.Goals as goal

pub store-at-requires : goal.store-at-requires
store-at-requires g c =
    let now = steps_now _ _ _ _ _ _ _ c.loop-i.invariant.0 c.loop-i-test.true in
    search (now, of_calls, rules)

pub loop-i-preserved : goal.loop-i-preserved
loop-i-preserved g c = (
  steps_on _ _ _ _ _ _ _ c.loop-i.invariant.0 c.loop-i-test.true _ _ _ c.store-at.ensures,
  λ end copy same.
      let did = same _ _ _ _ _ c.store-at.ensures in
      copied_on end copy _ _ _ _ _ _ c.loop-i-test.true did.0 did.1 ∙ c.loop-i.invariant.1 end copy same,
)

pub returns : goal.returns
returns g c end copy same =
    copied_end end copy _ _ _ _ _ _ c.loop-i-test.false ∙ c.loop-i.invariant.1 end copy same ∙ rw c.from-i-end.ensures refl

pub bounds-image-to : goal.bounds-image-to
bounds-image-to g c = omega (arith, c.requires.place)

pub overflow_add-to : goal.overflow_add-to
overflow_add-to g c = omega (arith, c.requires.place)

pub overflow_add-to-in-loop-i : goal.overflow_add-to-in-loop-i
overflow_add-to-in-loop-i g c =
    let byte : c.from-i-end.result ≡ get_or c.args.file.now c.args.from 0 = c.from-i-end.ensures in
    let below : c.loop-i.i + 1 ≤ 256 = omega (arith, c.loop-i-test.true, byte, c.type_inv.file c.args.from) in
    omega (arith, c.requires.fits, c.requires.place, mul-le-mul_left c.args.size below, mul-suc c.args.size c.loop-i.i)
