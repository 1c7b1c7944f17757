-- The whole file: what each answer says of it, since the readers of its sections are sound. Assumes nothing.
use mathlib.Core.Path.{◌≡◌, refl, sym, ap, ◌∙◌}
use mathlib.Core.List.{List, [], ◌∷◌, ◌++◌, append_assoc, append-nil}
use Prim.Native.Nat.{ℕ, ◌+◌, ◌≤◌, ◌<◌}
use native.Mathlib.Nat.{zero-add}
use native.Mathlib.Omega.{arith}
use lib.ListN.{length, get_or, take, drop, length-append, length-take, take-append-drop}
use lib.Seq.{take_all, take-append_seam, take-append-add, append_snoc, split_at}
use Rattle.plan.specs.Limits.{image_size}
use Rattle.plan.specs.Records.{Plan}
use Rattle.plan.specs.File.{file_of, Readable}
use Rattle.reading.specs.declared.Form.{Form}
use Rattle.reading.specs.declared.Form.TheVariants.{EndsEarly, LeftOver}
use Rattle.reading.specs.Reading.{form_number, form_offset, Got, form, got, sections, parse}
use Rattle.reading.proofs.Sound.{Refusal, Case, reads, short, bad}
use Rattle.reading.proofs.Sections.{sections_sound}

pub file_reads : (p : Plan) → Readable p → parse (file_of p) ≡ got p (length (file_of p)) []
unfolding parse
file_reads p ok = let e = rw append-nil at (sections_sound.forth p ok 0 []) in rw (e, zero-add)

more_refused : (p : Plan) (b : ℕ) (rest : List ℕ) → Readable p → parse (file_of p ++ (b ∷ rest)) ≡ form (LeftOver (length (file_of p)))
unfolding parse
more_refused p b rest ok = rw (sections_sound.forth p ok 0 (b ∷ rest), zero-add)

-- The four answers: a plan, left-over bytes, an early end, and a byte that is bad, whatever follows it.
pub data Outcome (s : List ℕ) : Got Plan → Type 0 where
  whole : (p : Plan) → Readable p → s ≡ file_of p → Outcome s (got p (length s) [])
  more : (p : Plan) (b : ℕ) (rest : List ℕ) → Readable p → s ≡ file_of p ++ (b ∷ rest) → Outcome s (form (LeftOver (length (file_of p))))
  early : length s < image_size → Outcome s (form (EndsEarly (length s)))
  byte : (f : Form) (before : List ℕ) (b : ℕ) (after : List ℕ) → s ≡ before ++ (b ∷ after) → length before < image_size → Refusal (length before) f →
      ((later : List ℕ) → parse (before ++ (b ∷ later)) ≡ form f) → Outcome s (form f)

outcome : (s : List ℕ) → Outcome s (parse s)
unfolding parse
outcome s = go (sections_sound.cases 0 s)
  where
    go : Case file_of Readable image_size sections 0 s → Outcome s (parse s)
    go (reads p [] ok z) = rw (z, append-nil, file_reads p ok) (whole p ok refl)
    go (reads p (b ∷ rest) ok z) = rw (z, more_refused p b rest ok) (more p b rest ok refl)
    go (short h e) = rw (e, zero-add) (early h)
    go (bad f before b after z h refusal steady) = rw (z, steady after) (byte f before b after refl h (rw zero-add at refusal) (λ later. rw (steady later)))

pub answers : (s : List ℕ) {g : Got Plan} → parse s ≡ g → Outcome s g
answers s e = rw e at (outcome s)

-- What follows.

module _ {s : List ℕ} where
  pub got_back : {p : Plan} {at : ℕ} {rest : List ℕ} → Outcome s (got p at rest) → (s ≡ file_of p) × Readable p × (at ≡ length s) × (rest ≡ [])
  got_back (whole p ok z) = (z, ok, refl, refl)

  pub early_place : {f : Form} → Outcome s (form f) → form_number f ≡ 1 → form_offset f ≡ length s
  early_place (early h) e = refl
  early_place (more p b rest ok z) e = absurd (omega arith)
  early_place (byte f before b after z h refusal steady) e = absurd (omega arith)

  pub byte_place : {f : Form} → Outcome s (form f) → 1 < form_number f → form_number f < 5 →
      (form_offset f < length s) × ((t : List ℕ) → take (form_offset f + 1) t ≡ take (form_offset f + 1) s → parse t ≡ form f)
  byte_place (early h) low high = absurd (omega arith)
  byte_place (more p b rest ok z) low high = absurd (omega arith)
  byte_place (byte f before b after z h refusal steady) low high =
      let head : take (form_offset f + 1) s ≡ before ++ (b ∷ []) = rw (refusal.place, z) (take-append-add before (b ∷ after) 1) in (
        omega (arith, simp length-append at (ap length z)),
        λ t e.
            (let later = drop (form_offset f + 1) t in
            let same : t ≡ before ++ (b ∷ later) = sym (take-append-drop (form_offset f + 1) t) ∙ ap (λ u. u ++ later) (e ∙ head) ∙ append_snoc before b later in
            rw same (steady later)),
      )

  pub over_place : {at : ℕ} → Outcome s (form (LeftOver at)) → (at < length s) × ((p : Plan) × (parse (take at s) ≡ got p at []))
  over_place (more p b rest ok z) = (omega (arith, simp length-append at (ap length z)), (p, rw (z, take-append_seam) (file_reads p ok)))
  over_place (byte f before b after z h refusal steady) = absurd (omega arith)

pub over_back : (s : List ℕ) (at : ℕ) (p : Plan) → at < length s → parse (take at s) ≡ got p at [] → parse s ≡ form (LeftOver at)
over_back s at p h e =
    let x = got_back (answers (take at s) e) in
    let k : length (file_of p) ≡ at = rw (← x.0) (sym x.2) in
    rw (split_at s at 0, x.0, more_refused p (get_or s at 0) _ x.1, k)

-- The bytes past the longest file's length, but for the first of them, have no part in the answer.
pub long_same : (n : ℕ) (s : List ℕ) → image_size < n → parse s ≡ parse (take n s)
long_same n s long = go refl (outcome (take n s))
  where
    fits : length (take n s) ≤ image_size → parse s ≡ parse (take n s)
    fits h = rw (take_all n s (omega (arith, length-take n s)))

    longer : (u : List ℕ) (b : ℕ) (v : List ℕ) → take n s ≡ u ++ (b ∷ v) → s ≡ u ++ (b ∷ (v ++ drop n s))
    longer u b v e = sym (take-append-drop n s) ∙ ap (λ h. h ++ drop n s) e ∙ append_assoc u (b ∷ v) (drop n s)

    go : {g : Got Plan} → parse (take n s) ≡ g → Outcome (take n s) g → parse s ≡ parse (take n s)
    go e (whole p ok z) = fits (rw z (sections_sound.fits p ok))
    go e (early h) = fits (omega arith)
    go e (more p b rest ok z) = rw (e, longer (file_of p) b rest z) (more_refused p b (rest ++ drop n s) ok)
    go e (byte f before b after z h refusal steady) = rw (e, longer before b after z) (steady (after ++ drop n s))
