-- Written by .ci/contracts --write: for each function of src/lib.rt, that any two results that its contract allows are the same.
use Rattle.std.specs.Prelude.{List, ℕ, Result, ◌≡◌ as ◌is◌, Bool, Option, ◌≡◌, not, Ok}
use Rattle.rules.specs.declared.Broken.{Broken}
use Rattle.laws.specs.Once.{equal_once}
use Rattle.laws.specs.Search.{lowest, unless}
use Rattle.plan.specs.Image.{plan_of}
use Rattle.rules.specs.Verdict.{broken, verdict}

pub check_once : (image : List ℕ) (r r₂ : Result Unit Broken)
    → (r ≡ verdict (plan_of image))
    → (r₂ ≡ verdict (plan_of image))
    → r is r₂
check_once image r r₂ by_one by_other = equal_once _ _ _ by_one by_other

pub each_once : (F : Type 0) (F_post : F → ℕ → Bool → Type 0) (rule rows : ℕ) (keeps : F) (r r₂ : Result Unit Broken) (test : ℕ → Bool)
    → ((row : ℕ) (kept : Bool) → F_post keeps row kept → kept ≡ test row)
    → ((test : ℕ → Bool) → ((row : ℕ) (kept : Bool) → F_post keeps row kept → kept ≡ test row) → r ≡ unless (lowest rows (λ i. not (test i))) (broken rule) (Ok tt))
    → ((test : ℕ → Bool) → ((row : ℕ) (kept : Bool) → F_post keeps row kept → kept ≡ test row) → r₂ ≡ unless (lowest rows (λ i. not (test i))) (broken rule) (Ok tt))
    → r is r₂
each_once F F_post rule rows keeps r r₂ test meets_test by_one by_other = equal_once _ _ _ (by_one test meets_test) (by_other test meets_test)

pub broken_by_once : (rule : ℕ) (row : Option ℕ) (r r₂ : Result Unit Broken)
    → (r ≡ unless row (broken rule) (Ok tt))
    → (r₂ ≡ unless row (broken rule) (Ok tt))
    → r is r₂
broken_by_once rule row r r₂ by_one by_other = equal_once _ _ _ by_one by_other
