-- `lists::put_bytes`: what is left of the list, written from the place reached, gives the whole list written.
use mathlib.Core.Path.{◌≡◌}
use native.Mathlib.Omega.{arith}
use lib.ListN.{length}
use Rattle.laws.specs.Written.{writing_start, writing_turn, writing_end}
use Rattle.lists.proofs.put_bytes.Goals as goal

pub loop-i-init : goal.loop-i-init
loop-i-init c = writing_start _ _ _

pub loop-i-preserved : goal.loop-i-preserved
loop-i-preserved c = writing_turn c.loop-i.invariant c.loop-i-test.true

pub returns : goal.returns
returns c =
    let all : c.loop-i.i ≡ length c.args.list.now = omega (arith, c.loop-i.auto.i-end, c.loop-i-test.false) in
    rw (← all) (writing_end c.loop-i.invariant c.loop-i-test.false c.requires)
