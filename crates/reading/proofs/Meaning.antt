-- What reading a plan file means: document 01, "The plan file", as laws of `parse`. Assumes nothing.
use mathlib.Core.Path.{◌≡◌, refl, sym, ◌∙◌}
use mathlib.Core.List.{List, [], ◌∷◌}
use mathlib.Core.Logic.{◌↔◌}
use Prim.Native.Nat.{ℕ, ◌+◌, ◌≤◌, ◌<◌}
use native.Mathlib.Omega.{arith}
use lib.ListN.{length, take}
use Rattle.laws.specs.Search.{first_with}
use Rattle.plan.specs.Limits.{image_size}
use Rattle.plan.specs.Records.{Plan}
use Rattle.plan.specs.File.{file_of, Readable}
use Rattle.reading.specs.declared.Form.{Form}
use Rattle.reading.specs.declared.Form.TheVariants.{EndsEarly, BadCount, BadNumber, NotRising, LeftOver}
use Rattle.reading.specs.Reading.{form_number, form_offset, form, got, parse}
use Rattle.reading.proofs.Sections.{sections_sound}
use Rattle.reading.proofs.Whole.{file_reads, answers, got_back, early_place, byte_place, over_place, over_back, long_same}

-- The file of a readable plan reads as that plan, to its end.
pub readable_reads : (p : Plan) → Readable p → parse (file_of p) ≡ got p (length (file_of p)) []
readable_reads = file_reads

-- A file that reads as a plan is that plan's file, the plan is readable, and nothing is left of the file.
pub reads_readable : (s : List ℕ) {p : Plan} {at : ℕ} {rest : List ℕ} → parse s ≡ got p at rest → (s ≡ file_of p) × Readable p × (at ≡ length s) × (rest ≡ [])
reads_readable s e = got_back (answers s e)

-- So a file reads as a plan exactly if it is that plan's file and the plan is readable.
pub reads_exactly : (s : List ℕ) (p : Plan) → (parse s ≡ got p (length s) []) ↔ ((s ≡ file_of p) × Readable p)
reads_exactly s p = (λ e. (let x = got_back (answers s e) in (x.0, x.1)), λ h. rw h.0 (file_reads p h.1))

-- Form 1, the file ends early, stands at the file's length.
pub ends_early_lem : (s : List ℕ) {f : Form} → parse s ≡ form f → form_number f ≡ 1 → form_offset f ≡ length s
ends_early_lem s e = early_place (answers s e)

-- Forms 2, 3 and 4 stand at a byte of the file, and depend on the bytes up to that one alone.
pub bad_byte : (s : List ℕ) {f : Form} → parse s ≡ form f → 1 < form_number f → form_number f < 5 →
    (form_offset f < length s) × ((t : List ℕ) → take (form_offset f + 1) t ≡ take (form_offset f + 1) s → parse t ≡ form f)
bad_byte s e = byte_place (answers s e)

-- Form 5, bytes left over, stands at an offset exactly if the bytes before it read as a plan and there are more.
pub left_over_lem : (s : List ℕ) (at : ℕ) → (parse s ≡ form (LeftOver at)) ↔ ((at < length s) × ((p : Plan) × (parse (take at s) ≡ got p at [])))
left_over_lem s at = (λ e. over_place (answers s e), λ h. over_back s at h.1.0 h.0 h.1.1)

-- The file of a readable plan is at most as long as the longest file.
pub readable_fits : (p : Plan) → Readable p → length (file_of p) ≤ image_size
readable_fits = sections_sound.fits

-- A file that is longer gets the answer of its bytes up to the first one that is too many.
pub longer_same : (s : List ℕ) → parse s ≡ parse (take (image_size + 1) s)
longer_same s = long_same (image_size + 1) s (omega arith)

-- A form's number and offset say which form it is.

form_of : ℕ → ℕ → Form
form_of n at = first_with form_number (EndsEarly at) (EndsEarly at ∷ BadCount at ∷ BadNumber at ∷ NotRising at ∷ LeftOver at ∷ []) n

form_back : (f : Form) → form_of (form_number f) (form_offset f) ≡ f
unfolding form_of first_with
form_back (EndsEarly at) = refl
form_back (BadCount at) = refl
form_back (BadNumber at) = refl
form_back (NotRising at) = refl
form_back (LeftOver at) = refl

pub same_form : (f g : Form) → form_number f ≡ form_number g → form_offset f ≡ form_offset g → f ≡ g
same_form f g n at = sym (form_back f) ∙ rw (n, at) (form_back g)
