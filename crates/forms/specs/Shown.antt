-- What is shown of the table of forms and of the largest file. The proofs stand in proofs/Meaning.antt and proofs/Longest.antt.
use Rattle.std.specs.Prelude.{◌≡◌, ◌⊎◌, ◌↔◌, List, ℕ, ◌<◌, ◌≤◌, length, take}
use Rattle.plan.specs.Records.{Plan}
use Rattle.plan.specs.File.{file_of, Readable}
use Rattle.forms.specs.Forms.{plan_file, Formed, Complete}

-- Exactly one form applies to a file that doesn't read as a plan, and none to one that does.
pub record OneForm (file : List ℕ) : Type 0 where
  -- a file is complete or has a form, and never both
  pub some : Complete plan_file file ⊎ ((n : ℕ) × (at : ℕ) × Formed plan_file file n at)
  pub apart : (n at : ℕ) → Formed plan_file file n at → Complete plan_file file → ⊥
  -- it has one number, at one offset
  pub once : (n m at k : ℕ) → Formed plan_file file n at → Formed plan_file file m k → (n ≡ m) × (at ≡ k)
  -- it is complete exactly if it is the file of a readable plan
  pub plans : Complete plan_file file ↔ ((p : Plan) × Readable p × (file ≡ file_of p))
  -- bytes are left over exactly where the bytes before are complete and there are more
  pub over : (at : ℕ) → Formed plan_file file 5 at ↔ (Complete plan_file (take at file) × (at < length file))

-- The largest file has 10,852 bytes.
pub record Longest : Type 0 where
  pub most : (p : Plan) → Readable p → length (file_of p) ≤ 10852
  pub reached : (p : Plan) × Readable p × (length (file_of p) ≡ 10852)
