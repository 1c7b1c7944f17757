-- Written by .ci/contracts --write: for each function of src/text.rt, that any two results that its contract allows are the same.
use Rattle.std.specs.Prelude.{ℕ, List, ◌≡◌ as ◌is◌, ◌++◌}
use Rattle.laws.specs.Written.{wrote_once, Wrote}
use denote.Bor.{Bor}
use Rattle.lines.specs.Decimal.{decimal}
use Rattle.lines.specs.Lines.{end, parts_line}

pub put_long_once : (n : ℕ) (out : List ℕ) (at r r₂ : ℕ) (out' out'' : List ℕ)
    → (Wrote (decimal n) out at out' r)
    → (Wrote (decimal n) out at out'' r₂)
    → (out' is out'') × (r is r₂)
put_long_once n out at r r₂ out' out'' by_one by_other = wrote_once _ _ _ _ _ _ _ by_one by_other

pub put_decimal_once : (n : ℕ) (out : List ℕ) (at r r₂ : ℕ) (out' out'' : List ℕ)
    → (Wrote (decimal n) out at out' r)
    → (Wrote (decimal n) out at out'' r₂)
    → (out' is out'') × (r is r₂)
put_decimal_once n out at r r₂ out' out'' by_one by_other = wrote_once _ _ _ _ _ _ _ by_one by_other

pub put_number_once : (word : List ℕ) (n : ℕ) (out : List ℕ) (at r r₂ : ℕ) (out' out'' : List ℕ)
    → (Wrote (word ++ decimal n) out at out' r)
    → (Wrote (word ++ decimal n) out at out'' r₂)
    → (out' is out'') × (r is r₂)
put_number_once word n out at r r₂ out' out'' by_one by_other = wrote_once _ _ _ _ _ _ _ by_one by_other

pub put_end_once : (out : List ℕ) (at r r₂ : ℕ) (out' out'' : List ℕ)
    → (Wrote end out at out' r)
    → (Wrote end out at out'' r₂)
    → (out' is out'') × (r is r₂)
put_end_once out at r r₂ out' out'' by_one by_other = wrote_once _ _ _ _ _ _ _ by_one by_other

pub put_line_once : (parts : List ((Bor (List ℕ)) × ℕ)) (out : List ℕ) (at r r₂ : ℕ) (out' out'' : List ℕ)
    → (Wrote (parts_line parts) out at out' r)
    → (Wrote (parts_line parts) out at out'' r₂)
    → (out' is out'') × (r is r₂)
put_line_once parts out at r r₂ out' out'' by_one by_other = wrote_once _ _ _ _ _ _ _ by_one by_other
