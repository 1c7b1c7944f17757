-- Any two results that a contract allows are the same: what that says, and why it is so of the plainest shapes of contract. The page of contracts
-- (docs/CONTRACTS.md) has the shape of every function's contract, and the law of every shape.
use Rattle.std.specs.Prelude.{◌≡◌}
use Rattle.std.proofs.Common.{sym, ◌∙◌}

-- a contract allows one result at most
abbrev pub Once : {A : Type 0} → (A → Type 0) → Type 0
Once {A} Allowed = (x y : A) → Allowed x → Allowed y → x ≡ y

-- an equality with what is made of the inputs
pub equal_once : {A : Type 0} (z : A) → Once (λ (x : A). x ≡ z)
equal_once z x y p q = p ∙ sym q

-- an equality for whatever stands in memory that the function is not lent
pub any_once : {A B : Type 0} (b : B) (z : B → A) → Once (λ (x : A). (c : B) → x ≡ z c)
any_once b z x y p q = p b ∙ sym (q b)
