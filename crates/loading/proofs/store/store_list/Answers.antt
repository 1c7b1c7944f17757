-- `loading::store::store_list`: at each turn the bytes left to copy make the whole copy.
use Rattle.loading.proofs.Copying.{bytes_start, bytes_turn, bytes_stop, bytes_end}
use Rattle.loading.proofs.store.store_list.Goals as goal

pub loop-i-init : goal.loop-i-init
loop-i-init c = bytes_start _ _ _ c.from.ensures _ _

pub loop-i-preserved : goal.loop-i-preserved
loop-i-preserved c =
    bytes_turn c.loop-i.invariant c.requires c.loop-i-test.true

pub returns : goal.returns
returns c =
    (bytes_end _ _ _ c.from.ensures, bytes_stop c.loop-i.invariant c.loop-i-test.false)
