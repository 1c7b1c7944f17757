-- Tables of answers and chains of tests, a law for each kind of row. A chain whose tests tell the rows' sentences gives the table's answer, gives no
-- other, and tells what the rows above its answer let pass. And two tables whose rows agree give the same answers.
use Rattle.std.specs.Prelude.{◌≡◌, Bool, true, false, cond, ◌⊎◌, ◌↔◌, ℕ, None, Option, Some}
use Rattle.std.proofs.Math.Path.{refl, ap}
use Rattle.std.proofs.Common.{sym, ◌∙◌, subst, inl, inr, arith}
use Rattle.laws.specs.Tests.{Is, clash, below?}
use Rattle.laws.specs.Search.{unless}
use Rattle.laws.specs.Answers.{NoSuch, LowestSuch, Table, last, asks, needs, names, the, Gives}

-- a search finds the lowest that is so; there is one lowest
pub record Finds (o : Option ℕ) (Such : ℕ → Type 0) : Type 0 where
  pub at : (x : ℕ) → o ≡ Some x → LowestSuch Such x
  pub nothing : o ≡ None → NoSuch Such

one_lowest : (Such : ℕ → Type 0) (x y : ℕ) → LowestSuch Such x → LowestSuch Such y → x ≡ y
one_lowest Such x y l m = elim (below? x y) [
  | inl h ↦ absurd (m.no_lower x h l.such)
  | inr h ↦ (elim (below? y x) [ inl k ↦ absurd (l.no_lower y k m.such) | inr k ↦ omega arith ])
]

-- c is the one answer that is got, and what it claims is so
pub record Sole (A : Type 0) (Claim Got : A → Type 0) (c : A) : Type 0 where
  pub given : Got c
  pub only : (a : A) → Got a → a ≡ c
  pub told : Claim c

pub record Decides (A : Type 0) (Claim : A → Type 0) (t : Table A) (c : A) : Type 0 where
  pub sole : Sole A Claim (Gives t) c

-- what is decided is the one answer that the table gives
pub gives_one : {A : Type 0} {Claim : A → Type 0} {t : Table A} {c a b : A} → Decides A Claim t c → Gives t a → Gives t b → a ≡ b
gives_one {a = a} {b = b} d g h = d.sole.only a g ∙ sym (d.sole.only b h)

module _ {A : Type 0} {Claim : A → Type 0} where
  -- a row stops at its answer, or is passed
  stop : {Here Got : A → Type 0} {Past : Type 0} {c : A} → (Past → ⊥) → Here c → ((a : A) → Here a → a ≡ c) → Claim c
      → Sole A Claim (λ a. Here a ⊎ (Past × Got a)) c
  stop n h one w = record { given = inl h; only = λ a. elim [ inl g ↦ one a g | inr g ↦ absurd (n g.0) ]; told = w }

  pass : {Here Got : A → Type 0} {Past : Type 0} {c : A} → Past → ((a : A) → Here a → ⊥) → Sole A Claim Got c → Sole A Claim (λ a. Here a ⊎ (Past × Got a)) c
  pass s n d = record { given = inr (s, d.given); only = λ a. elim [ inl g ↦ absurd (n a g) | inr g ↦ d.only a g.1 ]; told = d.told }

  -- A line for each row: its test, what its answer claims, and the rows below.

  pub last_row : {x : A} → Claim x → Decides A Claim (last x) x
  unfolding Gives
  last_row w = record { sole = record { given = refl; only = λ a g. g; told = w } }

  pub asks_row : {b : Bool} {So : Type 0} {x c : A} {t : Table A} → Is b ↔ So → (So → Claim x) → ((So → ⊥) → Decides A Claim t c)
      → Decides A Claim (asks So x t) (cond b x c)
  unfolding Gives
  asks_row {b = true} i w d = let s = i.0 refl in record { sole = stop (λ n. n s) (s, refl) (λ a h. h.1) (w s) }
  asks_row {b = false} {So} i w d = let n : (So → ⊥) = λ s. clash (i.1 s) refl in record { sole = pass n (λ a h. n h.0) (d n).sole }

  pub needs_row : {b : Bool} {So : Type 0} {x c : A} {t : Table A} → Is b ↔ So → ((So → ⊥) → Claim x) → (So → Decides A Claim t c)
      → Decides A Claim (needs So x t) (cond b c x)
  unfolding Gives
  needs_row {b = true} i w d = let s = i.0 refl in record { sole = pass s (λ a h. h.0 s) (d s).sole }
  needs_row {b = false} {So} i w d = let n : (So → ⊥) = λ s. clash (i.1 s) refl in record { sole = stop n (n, refl) (λ a h. h.1) (w n) }

  -- the test that it is not so
  pub needs_not_row : {b : Bool} {So : Type 0} {x c : A} {t : Table A} → (b ≡ false) ↔ So → ((So → ⊥) → Claim x) → (So → Decides A Claim t c)
      → Decides A Claim (needs So x t) (cond b x c)
  unfolding Gives
  needs_not_row {b = true} {So} i w d = let n : (So → ⊥) = λ s. clash {b = true} refl (i.1 s) in record { sole = stop n (n, refl) (λ a h. h.1) (w n) }
  needs_not_row {b = false} i w d = let s = i.0 refl in record { sole = pass s (λ a h. h.0 s) (d s).sole }

  pub names_row : {o : Option ℕ} {Such : ℕ → Type 0} {x : ℕ → A} {c : A} {t : Table A} → Finds o Such → ((n : ℕ) → LowestSuch Such n → Claim (x n))
      → (NoSuch Such → Decides A Claim t c) → Decides A Claim (names Such x t) (unless o x c)
  unfolding Gives unless
  names_row {o = Some n} {Such} {x} f w d =
      let l = f.at n refl in record { sole = stop (λ no. no n l.such) (n, l, refl) (λ a h. h.2 ∙ ap x (one_lowest Such h.0 n h.1 l)) (w n l) }
  names_row {o = None} f w d = let n = f.nothing refl in record { sole = pass n (λ a h. n h.0 h.1.such) (d n).sole }

  -- the one that is so, here n
  pub the_row : {Such : ℕ → Type 0} {c : A} {t : ℕ → Table A} (n : ℕ) → Such n → ((m : ℕ) → Such m → m ≡ n) → Decides A Claim (t n) c
      → Decides A Claim (the Such t) c
  unfolding Gives
  the_row {t = t} n s one d = record {
    sole = record {
      given = (n, s, d.sole.given);
      only = λ a g. d.sole.only a (subst (λ m. Gives (t m) a) (one g.0 g.1) g.2);
      told = d.sole.told;
    };
  }

  -- it is found, or this answer
  pub found_row : {o : Option ℕ} {Such : ℕ → Type 0} {x : A} {f : ℕ → A} {t : ℕ → Table A} → Finds o Such → ((m n : ℕ) → Such m → Such n → m ≡ n)
      → (NoSuch Such → Claim x) → ((n : ℕ) → Such n → Decides A Claim (t n) (f n)) → Decides A Claim (needs ((n : ℕ) × Such n) x (the Such t)) (unless o f x)
  unfolding Gives unless
  found_row {o = Some n} {t = t} i one w d =
      let s = (i.at n refl).such in record { sole = pass (n, s) (λ a h. h.0 (n, s)) (the_row {t = t} n s (λ m k. one m n k s) (d n s)).sole }
  found_row {o = None} {Such} i one w d =
      let no = i.nothing refl in
      let n : ((m : ℕ) × Such m → ⊥) = λ s. no s.0 s.1 in
      record { sole = stop n (n, refl) (λ a h. h.1) (w no) }

-- Agreement: what the one table gives, the other gives too.

pub record Within (A : Type 0) (t v : Table A) : Type 0 where
  pub carries : (a : A) → Gives t a → Gives v a

either : {B C D E : Type 0} → (B → D) → (C → E) → B ⊎ C → D ⊎ E
either f g (inl b) = inl (f b)
either f g (inr c) = inr (g c)

module _ {A : Type 0} where
  pub last_alike : {a : A} → Within A (last a) (last a)
  last_alike = record { carries = λ a g. g }

  pub needs_alike : {So Too : Type 0} {x : A} {t v : Table A} → So ↔ Too → Within A t v → Within A (needs So x t) (needs Too x v)
  unfolding Gives
  needs_alike i d = record { carries = λ a. either (λ g. (λ s. g.0 (i.1 s), g.1)) (λ g. (i.0 g.0, d.carries a g.1)) }

  pub names_alike : {P Q : ℕ → Type 0} {x y : ℕ → A} {t v : Table A} → ((n : ℕ) → P n ↔ Q n) → ((n : ℕ) → P n → x n ≡ y n) → Within A t v
      → Within A (names P x t) (names Q y v)
  unfolding Gives
  names_alike i e d = record {
    carries = λ a. either
        (λ g. (g.0, record { such = (i g.0).0 g.1.such; no_lower = λ y h s. g.1.no_lower y h ((i y).1 s) }, g.2 ∙ e g.0 g.1.such))
        (λ g. (λ n s. g.0 n ((i n).1 s), d.carries a g.1));
  }
