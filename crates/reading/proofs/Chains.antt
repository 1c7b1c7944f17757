-- Parts that the code reads one after the other. Each part's law is made of the one before it, so that each return of the code is one line. Assumes nothing.
use Rattle.std.specs.Prelude.{Err, Ok, Result}
use mathlib.Core.Path.{◌≡◌, sym, ap, ◌∙◌}
use mathlib.Core.List.{List}
use Prim.Native.Nat.{ℕ}
use lib.ListN.{drop}
use Rattle.reading.specs.declared.Form.{Form}
use Rattle.reading.specs.Reading.{Reader, got, and_then, done, scanned}
use Rattle.reading.proofs.Scanned.{Steady, then_stop, then_step, then_last}

-- Part way through: whatever was read before, what is left to read from here answers what the whole does. The values are bound, not named: `rest` stays small.
pub record Left (B : Type 0) : Type 1 where
  pub Read : Type 0
  pub rest : Read → Reader B
  pub file : List ℕ
  pub at : ℕ
  pub answer : Result ℕ Form
  pub same : (x : Result ℕ Form) → ((v : Read) → x ≡ scanned (rest v) file at) → x ≡ answer

-- A part that was read: refused, it answers for the whole; passed, the rest is left.
pub record Part (B : Type 0) : Type 1 where
  pub result : Result ℕ Form
  pub answer : Result ℕ Form
  pub refused : {x : Result ℕ Form} {f : Form} → x ≡ Err f → result ≡ Err f → x ≡ answer
  pub passed : {q : ℕ} → result ≡ Ok q → Left B

abbrev pub all_left : {B : Type 0} (whole : Reader B) (file : List ℕ) (at : ℕ) → Left B
all_left whole file at = record { Read = Unit; rest = λ _. whole; file = file; at = at; answer = scanned whole file at; same = λ x go. go tt }

module _ {R A B : Type 0} (reader : R → Reader A) (file : List ℕ) (p : ℕ) {answer : Result ℕ Form} where
  -- `same` is that of what was left before this part
  abbrev pub part : (k : R → A → Reader B) → ((x : Result ℕ Form) → ((v : R) → x ≡ scanned (and_then (reader v) (k v)) file p) → x ≡ answer) → ((v : R) → Steady (reader v))
      → {r : Result ℕ Form} → ((v : R) → r ≡ scanned (reader v) file p) → Part B
  part k same s {r} told = record {
    result = r;
    answer = answer;
    refused = λ x e. x ∙ sym e ∙ same r (λ v. then_stop (reader v) (k v) file p (told v) e);
    passed = λ {q} e. record {
      Read = (v : R) × (a : A) × (reader v p (drop p file) ≡ got a q (drop q file));
      rest = λ v. k v.0 v.1;
      file = file;
      at = q;
      answer = answer;
      same = λ x go. same x (λ v. then_step (reader v) (k v) file p (told v) (s v) e λ a h. go (v, a, h));
    };
  }

  -- the last part answers for the whole
  pub last_part : (make : R → A → B) → ((x : Result ℕ Form) → ((v : R) → x ≡ scanned (and_then (reader v) (λ a. done (make v a))) file p) → x ≡ answer)
      → {r : Result ℕ Form} → ((v : R) → r ≡ scanned (reader v) file p) → r ≡ answer
  last_part make same {r} told = same r (λ v. then_last (reader v) (make v) file p (told v))

-- A reader by a value that the code has under another name.
pub told_as : {X A : Type 0} (reader : X → Reader A) (file : List ℕ) (at : ℕ) {x y : X} {r : Result ℕ Form} → x ≡ y → r ≡ scanned (reader x) file at → r ≡ scanned (reader y) file at
told_as {X = X} reader file at e told = told ∙ ap (λ (n : X). scanned (reader n) file at) e
