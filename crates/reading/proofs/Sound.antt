-- A reader is sound for a way to write things: it reads what is written of each thing that is allowed, and bytes that begin with no such
-- thing end too early or have a bad byte. Soundness goes from two readers to one after the other, and to many. Assumes nothing.
use mathlib.Core.Path.{◌≡◌, refl}
use mathlib.Core.List.{List, [], ◌∷◌, ◌++◌, append_assoc, append-nil}
use mathlib.Core.Bool.{Bool, true, false}
use mathlib.Core.Logic.{◌⊎◌, inl, inr}
use Prim.Native.Nat.{ℕ, ◌+◌, ◌≤◌, ◌<◌}
use native.Mathlib.Nat.{add-zero, add_assoc}
use native.Mathlib.Omega.{arith}
use lib.ListN.{length, length-append}
use lib.Dec.{ltb}
use borrow.Author.Tests.{ltb-false, le-ltb}
use Rattle.laws.specs.Tests.{Is, split, never}
use Rattle.reading.specs.declared.Form.{Form}
use Rattle.reading.specs.declared.Form.TheVariants.{EndsEarly, BadCount, BadNumber, NotRising}
use Rattle.reading.specs.Reading.{form_number, form_offset, form, got, Reader, and_then, done, number, count}

-- a form 2, 3 or 4 that stands at an offset
pub record Refusal (at : ℕ) (f : Form) : Type 0 where
  pub place : form_offset f ≡ at
  pub low : 1 < form_number f
  pub high : form_number f < 5

-- What a reader meets: a thing that is allowed, bytes that end before what it reads can, or a byte that is bad, whatever follows it.
pub data Case {A : Type 0} (file : A → List ℕ) (Ok : A → Type 0) (most : ℕ) (reader : Reader A) (at : ℕ) (s : List ℕ) : Type 0 where
  reads : (a : A) (rest : List ℕ) → Ok a → s ≡ file a ++ rest → Case file Ok most reader at s
  short : length s < most → reader at s ≡ form (EndsEarly (at + length s)) → Case file Ok most reader at s
  bad : (f : Form) (before : List ℕ) (byte : ℕ) (after : List ℕ) → s ≡ before ++ (byte ∷ after) → length before < most → Refusal (at + length before) f →
      ((later : List ℕ) → reader at (before ++ (byte ∷ later)) ≡ form f) → Case file Ok most reader at s

-- What is written of an allowed thing is no longer than the bound and reads as that thing, and all bytes are one of the cases.
pub record Sound {A : Type 0} (file : A → List ℕ) (Ok : A → Type 0) (most : ℕ) (reader : Reader A) : Type 0 where
  pub fits : (a : A) → Ok a → length (file a) ≤ most
  pub forth : (a : A) → Ok a → (at : ℕ) (rest : List ℕ) → reader at (file a ++ rest) ≡ got a (at + length (file a)) rest
  pub cases : (at : ℕ) (s : List ℕ) → Case file Ok most reader at s

-- What a sound reader gives is allowed, and stands before what is left.
pub sound_got : {A : Type 0} {file : A → List ℕ} {Ok : A → Type 0} {most : ℕ} {reader : Reader A} → Sound file Ok most reader → (at : ℕ) (s : List ℕ) {a : A} {next : ℕ} {rest : List ℕ} →
    reader at s ≡ got a next rest → Ok a × (s ≡ file a ++ rest)
sound_got {A} {file} {Ok} {most} {reader} sound at s {a} {next} {rest} e = go (sound.cases at s)
  where
    go : Case file Ok most reader at s → Ok a × (s ≡ file a ++ rest)
    go (reads b left ok z) =
        let f : reader at s ≡ got b (at + length (file b)) left = rw z (sound.forth b ok at left) in
        let same : b ≡ a = cc in
        let left_same : left ≡ rest = cc in
        rw (← same, ← left_same) (ok, z)
    go (short h f) = never (cc)
    go (bad f before byte after z h refusal steady) = never (let w : reader at s ≡ form f = rw z (steady after) in cc)

-- .. and ends where what is left begins.
pub sound_next : {A : Type 0} {file : A → List ℕ} {Ok : A → Type 0} {most : ℕ} {reader : Reader A} → Sound file Ok most reader → (at : ℕ) (s : List ℕ) {a : A} {next : ℕ} {rest : List ℕ} →
    reader at s ≡ got a next rest → next ≡ at + length (file a)
sound_next {file} {reader} sound at s {a} {next} {rest} e =
    let x = sound_got sound at s e in
    let f : reader at s ≡ got a (at + length (file a)) rest = rw x.1 (sound.forth a x.0 at rest) in
    cc

-- One byte.

pub number_sound : (fits : ℕ → Bool) (least : ℕ) → Sound (λ v. v ∷ []) (λ v. Is (fits v) × (least ≤ v)) 1 (number fits least)
unfolding number
number_sound fits least = record {
  fits = λ v ok. omega arith;
  forth = λ v ok at rest. rw (ok.0, le-ltb _ _ ok.1);
  cases = λ at. elim [ [] ↦ short (omega arith) (rw add-zero) | b ∷ s ↦ byte at b s (split (fits b)) (split (ltb b least)) ];
}
  where
    byte : (at b : ℕ) (s : List ℕ) → (fits b ≡ true) ⊎ (fits b ≡ false) → (ltb b least ≡ true) ⊎ (ltb b least ≡ false) →
        Case (λ v. v ∷ []) (λ v. Is (fits v) × (least ≤ v)) 1 (number fits least) at (b ∷ s)
    byte at b s (inr x) y = bad (BadNumber at) [] b s refl (omega arith) (omega arith) (λ later. rw x)
    byte at b s (inl x) (inl y) = bad (NotRising at) [] b s refl (omega arith) (omega arith) (λ later. rw (x, y))
    byte at b s (inl x) (inr y) = reads b s (x, ltb-false _ _ y) refl

pub count_sound : (least most : ℕ) → Sound (λ k. k ∷ []) (λ k. (least ≤ k) × (k ≤ most)) 1 (count least most)
unfolding count
count_sound least most = record {
  fits = λ k ok. omega arith;
  forth = λ k ok at rest. rw (le-ltb _ _ ok.0, le-ltb _ _ ok.1);
  cases = λ at. elim [ [] ↦ short (omega arith) (rw add-zero) | b ∷ s ↦ byte at b s (split (ltb b least)) (split (ltb most b)) ];
}
  where
    byte : (at b : ℕ) (s : List ℕ) → (ltb b least ≡ true) ⊎ (ltb b least ≡ false) → (ltb most b ≡ true) ⊎ (ltb most b ≡ false) →
        Case (λ k. k ∷ []) (λ k. (least ≤ k) × (k ≤ most)) 1 (count least most) at (b ∷ s)
    byte at b s (inl x) y = bad (BadCount at) [] b s refl (omega arith) (omega arith) (λ later. rw x)
    byte at b s (inr x) (inl y) = bad (BadCount at) [] b s refl (omega arith) (omega arith) (λ later. rw (x, y))
    byte at b s (inr x) (inr y) = reads b s (ltb-false _ _ x, ltb-false _ _ y) refl

pub done_sound : {B : Type 0} (b : B) → Sound (λ x. []) (λ x. x ≡ b) 0 (done b)
unfolding done
done_sound b = record { fits = λ x ok. omega arith; forth = λ x ok at rest. rw (ok, add-zero); cases = λ at s. reads b s refl refl }

-- The same reader, for another account of what it reads.
pub as_sound : {A : Type 0} {file file' : A → List ℕ} {Ok Ok' : A → Type 0} {m m' : ℕ} {r : Reader A} → Sound file Ok m r → m ≤ m' →
    ((a : A) → Ok a → Ok' a × (file' a ≡ file a)) → ((a : A) → Ok' a → Ok a) → Sound file' Ok' m' r
as_sound {file} {file'} {Ok} {Ok'} {m} {m'} {r} sound le to from = record {
  fits = λ a ok. (let x = from a ok in rw (to a x).1 (omega (arith, sound.fits a x)));
  forth = λ a ok at rest. (let x = from a ok in rw (to a x).1 (sound.forth a x at rest));
  cases = λ at s. other at s (sound.cases at s);
}
  where
    other : (at : ℕ) (s : List ℕ) → Case file Ok m r at s → Case file' Ok' m' r at s
    other at s (reads a rest ok z) = reads a rest (to a ok).0 (rw (to a ok).1 z)
    other at s (short h e) = short (omega arith) e
    other at s (bad f before byte after z h refusal steady) = bad f before byte after z (omega arith) refusal steady

-- One reader after the other: the whole is joined from what the two read, and parted into that.
module _ {A B : Type 0} {file₁ : A → List ℕ} {Ok₁ : A → Type 0} {m : ℕ} {r : Reader A} {file₂ : A → B → List ℕ} {Ok₂ : A → B → Type 0} {n : ℕ} {k : A → Reader B}
    (first : Sound file₁ Ok₁ m r) (second : (a : A) → Ok₁ a → Sound (file₂ a) (Ok₂ a) n (k a)) {file : B → List ℕ} {Ok : B → Type 0} {most : ℕ} (le : m + n ≤ most)
    (join : (a : A) (b : B) → Ok₁ a → Ok₂ a b → Ok b × (file b ≡ file₁ a ++ file₂ a b)) (part : (b : B) → Ok b → (a : A) × Ok₁ a × Ok₂ a b) where
  joint_forth : (b : B) → Ok b → (at : ℕ) (rest : List ℕ) → and_then r k at (file b ++ rest) ≡ got b (at + length (file b)) rest
  unfolding and_then
  joint_forth b ok at rest =
      let (a, ok₁, ok₂) = part b ok in
      rw ((join a b ok₁ ok₂).1, append_assoc, first.forth a ok₁, (second a ok₁).forth b ok₂, length-append, add_assoc)

  after_first : (at : ℕ) (a : A) (mid : List ℕ) → Ok₁ a → Case (file₂ a) (Ok₂ a) n (k a) (at + length (file₁ a)) mid → Case file Ok most (and_then r k) at (file₁ a ++ mid)
  unfolding and_then
  after_first at a mid ok (reads b rest ok₂ z) = let j = join a b ok ok₂ in reads b rest j.0 (rw (z, j.1, append_assoc))
  after_first at a mid ok (short h e) =
      short (rw length-append (omega (arith, first.fits a ok))) (rw (first.forth a ok, e, length-append, add_assoc))
  after_first at a mid ok (bad f before byte after z h refusal steady) =
      bad f (file₁ a ++ before) byte after (rw (z, append_assoc)) (rw length-append (omega (arith, first.fits a ok))) (rw (length-append, ← add_assoc) refusal)
      (λ later. rw (append_assoc, first.forth a ok) (steady later))

  joint_cases : (at : ℕ) (s : List ℕ) → Case file₁ Ok₁ m r at s → Case file Ok most (and_then r k) at s
  unfolding and_then
  joint_cases at s (reads a mid ok z) = rw z (after_first at a mid ok ((second a ok).cases (at + length (file₁ a)) mid))
  joint_cases at s (short h e) = short (omega arith) (rw e)
  joint_cases at s (bad f before byte after z h refusal steady) = bad f before byte after z (omega arith) refusal (λ later. rw (steady later))

  pub joint_sound : Sound file Ok most (and_then r k)
  joint_sound = record {
    fits = λ b ok. (let (a, ok₁, ok₂) = part b ok in rw ((join a b ok₁ ok₂).1, length-append) (omega (arith, first.fits a ok₁, (second a ok₁).fits b ok₂)));
    forth = joint_forth;
    cases = λ at s. joint_cases at s (first.cases at s);
  }

-- a whole that has what the first reads as a part
pub then_sound : {A B : Type 0} {file₁ : A → List ℕ} {Ok₁ : A → Type 0} {m : ℕ} {r : Reader A} {file₂ : A → B → List ℕ} {Ok₂ : A → B → Type 0} {n : ℕ} {k : A → Reader B}
    (part : B → A) → ((a : A) (b : B) → Ok₂ a b → part b ≡ a) → Sound file₁ Ok₁ m r → ((a : A) → Sound (file₂ a) (Ok₂ a) n (k a)) →
    Sound (λ b. file₁ (part b) ++ file₂ (part b) b) (λ b. Ok₁ (part b) × Ok₂ (part b) b) (m + n) (and_then r k)
then_sound part same first second =
    joint_sound first (λ a ok. second a) (omega arith) (λ a b ok₁ ok₂. rw (same a b ok₂) ((ok₁, ok₂), refl)) (λ b ok. (part b, ok.0, ok.1))

-- a whole that is made once its last part is read
pub last_sound : {A B : Type 0} {file : A → List ℕ} {Ok : A → Type 0} {m : ℕ} {r : Reader A}
    (part : B → A) (make : A → B) → ((a : A) → part (make a) ≡ a) → Sound file Ok m r →
    Sound (λ b. file (part b)) (λ b. Ok (part b) × (b ≡ make (part b))) m (and_then r (λ a. done (make a)))
last_sound part make same first =
    joint_sound first (λ a ok. done_sound (make a)) (omega arith) (λ a b ok e. rw (e, same a, append-nil) ((ok, refl), refl)) (λ b ok. (part b, ok.0, ok.1))
