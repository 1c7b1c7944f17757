-- `lists::put_bytes`: what is left of the list, written from the place reached, gives the whole list written.
use Rattle.laws.specs.Written.{Writing}
use Rattle.lists.proofs.put_bytes.Given as goal

abbrev pub invariant-loop-i : goal.invariant-loop-i
invariant-loop-i l = Writing l.list l.initial.out l.at l.out l.i
