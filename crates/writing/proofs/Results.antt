-- Written by .ci/contracts --write: for each function of src/lib.rt, that any two results that its contract allows are the same.
use Rattle.writing.specs.declared.Unwritten.{Unwritten}
use Rattle.std.specs.Prelude.{ℕ, ◌≡◌ as ◌is◌, List, Result, ◌≡◌, length}
use Rattle.laws.specs.Once.{equal_once}
use Rattle.writing.specs.Writing.{after_writing, unwritten_number, written}

pub unwritten_number_once : (self : Unwritten) (r r₂ : ℕ)
    → (r ≡ unwritten_number self)
    → (r₂ ≡ unwritten_number self)
    → r is r₂
unwritten_number_once self r r₂ by_one by_other = equal_once _ _ _ by_one by_other

pub judged_once : (image : List ℕ) (room : ℕ) (r r₂ : Result ℕ Unwritten)
    → (r ≡ written image room)
    → (r₂ ≡ written image room)
    → r is r₂
judged_once image room r r₂ by_one by_other = equal_once _ _ _ by_one by_other

pub write_once : (image out : List ℕ) (r r₂ : Result ℕ Unwritten) (out' out'' : List ℕ)
    → ((r ≡ written image (length out)) × (out' ≡ after_writing image (written image (length out)) out))
    → ((r₂ ≡ written image (length out)) × (out'' ≡ after_writing image (written image (length out)) out))
    → (r is r₂) × (out' is out'')
write_once image out r r₂ out' out'' by_one by_other = (equal_once _ _ _ by_one.0 by_other.0, equal_once _ _ _ by_one.1 by_other.1)
