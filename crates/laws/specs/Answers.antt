-- A table of answers, read from top to bottom as a document has it: the first row that applies is the answer.
use Rattle.std.specs.Prelude.{◌≡◌, ◌⊎◌, ℕ, ◌<◌}

-- None is so; or one is, and no lower one.

abbrev pub NoSuch : (ℕ → Type 0) → Type 0
NoSuch Such = (x : ℕ) → Such x → ⊥

pub record LowestSuch (Such : ℕ → Type 0) (x : ℕ) : Type 0 where
  pub such : Such x
  pub no_lower : (y : ℕ) → y < x → Such y → ⊥

pub data Table (A : Type 0) : Type 1 where
  -- no row above applied: this answer
  last : A → Table A
  -- if so, this answer
  asks : Type 0 → A → Table A → Table A
  -- if not so, this answer
  needs : Type 0 → A → Table A → Table A
  -- if any is so, the answer that names the lowest
  names : (ℕ → Type 0) → (ℕ → A) → Table A → Table A
  -- the rest speaks of the one that is so (that there is just one is shown where the table is used)
  the : (ℕ → Type 0) → (ℕ → Table A) → Table A

-- the table gives the answer
unfoldable pub Gives : {A : Type 0} → Table A → A → Type 0
Gives (last x) a = a ≡ x
Gives (asks So x rest) a = (So × (a ≡ x)) ⊎ ((So → ⊥) × Gives rest a)
Gives (needs So x rest) a = ((So → ⊥) × (a ≡ x)) ⊎ (So × Gives rest a)
Gives (names Such x rest) a = ((n : ℕ) × LowestSuch Such n × (a ≡ x n)) ⊎ (NoSuch Such × Gives rest a)
Gives (the Such rest) a = (n : ℕ) × Such n × Gives (rest n) a
