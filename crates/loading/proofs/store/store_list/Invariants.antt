-- `loading::store::store_list`: at each turn the bytes left to copy make the whole copy.
use Rattle.loading.specs.Storing.{copy_list}
use Rattle.loading.proofs.Copying.{BytesLeft}
use Rattle.loading.proofs.store.store_list.Given as goal

abbrev pub invariant-loop-i : goal.invariant-loop-i
invariant-loop-i l = BytesLeft l.size l.file l.at l.to l.bytes (copy_list l.size l.file l.at l.to l.initial.image) l.i l.image
