-- Written by .ci/contracts --write: for each function of src/lib.rt, that any two results that its contract allows are the same.
use Rattle.std.specs.Prelude.{List, ℕ, Result, ◌≡◌ as ◌is◌, ◌≡◌}
use Rattle.reading.specs.declared.Form.{Form}
use Rattle.laws.specs.Once.{equal_once}
use Rattle.reading.specs.Reading.{parse, seen}
use Rattle.loading.specs.Storing.{after_reading}

pub load_once : (file image : List ℕ) (r r₂ : Result ℕ Form) (image' image'' : List ℕ)
    → ((r ≡ seen (parse file)) × (image' ≡ after_reading (parse file) image))
    → ((r₂ ≡ seen (parse file)) × (image'' ≡ after_reading (parse file) image))
    → (r is r₂) × (image' is image'')
load_once file image r r₂ image' image'' by_one by_other = (equal_once _ _ _ by_one.0 by_other.0, equal_once _ _ _ by_one.1 by_other.1)
