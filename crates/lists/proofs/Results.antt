-- Written by .ci/contracts --write: for each function of src/lib.rt, that any two results that its contract allows are the same.
use Rattle.std.specs.Prelude.{List, ℕ, Bool, ◌≡◌ as ◌is◌, ◌≡◌, not, ltb, drop}
use Rattle.laws.specs.Once.{equal_once}
use Rattle.laws.specs.Written.{wrote_once, Wrote}
use Rattle.laws.specs.Lists.{all_of, has, different}

pub has_once : (list : List ℕ) (x : ℕ) (r r₂ : Bool)
    → (r ≡ has x list)
    → (r₂ ≡ has x list)
    → r is r₂
has_once list x r r₂ by_one by_other = equal_once _ _ _ by_one by_other

pub all_in_once : (list other : List ℕ) (r r₂ : Bool)
    → (r ≡ all_of (λ x. has x other) list)
    → (r₂ ≡ all_of (λ x. has x other) list)
    → r is r₂
all_in_once list other r r₂ by_one by_other = equal_once _ _ _ by_one by_other

pub none_in_once : (list other : List ℕ) (r r₂ : Bool)
    → (r ≡ all_of (λ x. not (has x other)) list)
    → (r₂ ≡ all_of (λ x. not (has x other)) list)
    → r is r₂
none_in_once list other r r₂ by_one by_other = equal_once _ _ _ by_one by_other

pub all_below_once : (list : List ℕ) (limit : ℕ) (r r₂ : Bool)
    → (r ≡ all_of (λ x. ltb x limit) list)
    → (r₂ ≡ all_of (λ x. ltb x limit) list)
    → r is r₂
all_below_once list limit r r₂ by_one by_other = equal_once _ _ _ by_one by_other

pub different_once : (list : List ℕ) (r r₂ : Bool)
    → (r ≡ different list)
    → (r₂ ≡ different list)
    → r is r₂
different_once list r r₂ by_one by_other = equal_once _ _ _ by_one by_other

pub only_from_once : (T : Type 0) (T_eq : T → T → Bool) (from : ℕ) (list : List T) (value : T) (r r₂ : Bool)
    → (r ≡ all_of (λ x. T_eq x value) (drop from list))
    → (r₂ ≡ all_of (λ x. T_eq x value) (drop from list))
    → r is r₂
only_from_once T T_eq from list value r r₂ by_one by_other = equal_once _ _ _ by_one by_other

pub put_bytes_once : (list out : List ℕ) (at r r₂ : ℕ) (out' out'' : List ℕ)
    → (Wrote list out at out' r)
    → (Wrote list out at out'' r₂)
    → (out' is out'') × (r is r₂)
put_bytes_once list out at r r₂ out' out'' by_one by_other = wrote_once _ _ _ _ _ _ _ by_one by_other
