-- What can be read from a code: the sort of outcome that it stands for, and the outcome itself. No two outcomes that can come have the same code,
-- and nothing of what can come is cut where it is put into a byte. Proved in proofs/Decoded.antt. Which values each number has stands in
-- events/specs/Answers.antt (`answer_values`).
use Rattle.writing.specs.declared.Unwritten.{Unwritten}
use Rattle.std.specs.Prelude.{◌≡◌, ◌⊎◌, List, [], ◌∷◌, ℕ, zero, suc, ◌+◌, ◌/◌, ◌%◌, ◌<◌, ◌≤◌, length, Err, Ok, Result}
use Rattle.laws.specs.Lists.{All}
use Rattle.plan.specs.Limits.{image_size}
use Rattle.plan.specs.Records.{Plan}
use Rattle.plan.specs.File.{Readable}
use Rattle.reading.specs.declared.Form.{Form}
use Rattle.reading.specs.Reading.{form, form_number, form_offset, parse}
use Rattle.writing.specs.declared.Unwritten.TheVariants.{NoFile, NoRoom}
use Rattle.writing.specs.Writing.{unwritten_number, written_number, written_length, written}
use Rattle.rules.specs.Verdict.{verdict, rule_number, rule_row}
use Rattle.state.specs.Cells.{state_in}
use Rattle.events.specs.declared.Event.{Event}
use Rattle.events.specs.declared.Event.TheVariants.{Request, Cancel, Enter, Move, Unknown}
use Rattle.events.specs.declared.Answer.{Answer}
use Rattle.events.specs.Answers.{answer_number, answer_values}
use Rattle.events.specs.Events.{first_event, events_of}
use Rattle.events.specs.Decide.{answer}
use Rattle.codes.specs.Codes.{answer_code, form_code, verdict_code, written_code, no_room}

-- so many bytes of a code, the lowest first
unfoldable pub unpacked : ℕ → ℕ → List ℕ
unpacked zero code = []
unpacked (suc k) code = code % 256 ∷ unpacked k (code / 256)

-- What fits: a number that is a byte; an answer whose number and values are bytes; an event whose own numbers are; a form whose offset is two bytes, and a
-- file whose length is.

abbrev pub Byte : ℕ → Type 0
Byte n = n < 256

abbrev pub ByteAnswer : Answer → Type 0
ByteAnswer a = All Byte (answer_number a ∷ answer_values a)

abbrev pub ByteEvent : Event → Type 0
ByteEvent (Request route) = Byte route
ByteEvent (Cancel route) = Byte route
ByteEvent (Enter entry train) = Byte entry × Byte train
ByteEvent (Move train) = Byte train
ByteEvent Unknown = Unit

abbrev pub ShortForm : Form → Type 0
ShortForm f = form_offset f < 65536

abbrev pub ShortFile : Result ℕ Unwritten → Type 0
ShortFile w = written_length w < 65536

-- The sorts of code, and the lowest bytes of each.

pub data Sort : Type 0 where
  -- 0: a plan, or all was done
  nothing : Sort
  aForm : Sort
  -- too little room
  too_little : Sort
  -- no file reads as the image
  no_file : Sort
  an_answer : Sort
  -- a file is written
  aLength : Sort
  aVerdict : Sort

abbrev pub Tells : Sort → ℕ → Type 0
Tells nothing b = b ≡ 0
Tells aForm b = (1 ≤ b) × (b ≤ 5)
Tells too_little b = b ≡ no_room
Tells no_file b = b ≡ unwritten_number NoFile
Tells an_answer b = ((10 ≤ b) × (b ≤ 19)) ⊎ ((40 ≤ b) × (b ≤ 42)) ⊎ ((100 ≤ b) × (b ≤ 104))
Tells aLength b = b ≡ 120
Tells aVerdict b = (200 ≤ b) × (b ≤ 255)

-- of what sort a writer's answer is
abbrev pub written_sort : Result ℕ Unwritten → Sort
written_sort (Err NoFile) = no_file
written_sort (Err NoRoom) = too_little
written_sort (Ok size) = aLength

-- What can come fits: of bytes come events of bytes, and of these answers of bytes, on any plan that a file can hold and in any state that stands in
-- cells of bytes, whatever the holds; no form stands so far on in a file that its offset is cut, and no file is so long that its length is; a rule's
-- number, after the 200, and its row are bytes.
pub record Fitting : Type 0 where
  pub first : (bytes : List ℕ) → All Byte bytes → ByteEvent (first_event bytes)
  pub events : (bytes : List ℕ) → All Byte bytes → All ByteEvent (events_of bytes)
  pub answers : (p : Plan) → Readable p → (cells holds : List ℕ) → All Byte cells → (event : Event) → ByteEvent event
      → ByteAnswer (answer p (state_in cells holds) event)
  pub forms : (file : List ℕ) (f : Form) → parse file ≡ form f → ShortForm f
  pub files : (image : List ℕ) (room : ℕ) → length image ≡ image_size → ShortFile (written image room)
  pub rules : (p : Plan) → rule_number (verdict p) ≤ 55
  pub rows : (p : Plan) → Readable p → Byte (rule_row (verdict p))

-- The lowest byte tells the sort. No byte is of two sorts, so that outcomes of two sorts never have the same code, and none of them has the code 0.
pub record Apart : Type 0 where
  pub one : (s t : Sort) (b : ℕ) → Tells s b → Tells t b → s ≡ t
  pub forms : (f : Form) → Tells aForm (form_code f % 256)
  pub answers : (a : Answer) → Tells an_answer (answer_code a % 256)
  pub written : (w : Result ℕ Unwritten) → Tells (written_sort w) (written_code w % 256)
  pub verdicts : (p : Plan) → Tells aVerdict (verdict_code (verdict p) % 256)

-- The code gives back number and values, and these give the code; they are of one outcome alone, and so is the code.
pub record Decoding : Type 0 where
  pub number : (a : Answer) → answer_code a % 256 ≡ answer_number a
  pub values : (a : Answer) → ByteAnswer a → unpacked (suc (length (answer_values a))) (answer_code a) ≡ answer_number a ∷ answer_values a
  pub code : (a b : Answer) → answer_number a ≡ answer_number b → answer_values a ≡ answer_values b → answer_code a ≡ answer_code b
  pub same : (a b : Answer) → answer_number a ≡ answer_number b → answer_values a ≡ answer_values b → a ≡ b
  pub one_answer : (a b : Answer) → ByteAnswer a → ByteAnswer b → answer_code a ≡ answer_code b → a ≡ b
  pub form_numbers : (f : Form) → ShortForm f → (form_code f % 256 ≡ form_number f) × (form_code f / 256 ≡ form_offset f)
  pub one_form : (f g : Form) → ShortForm f → ShortForm g → form_code f ≡ form_code g → f ≡ g
  pub written_numbers : (w : Result ℕ Unwritten) → ShortFile w → (written_code w % 256 ≡ written_number w) × (written_code w / 256 ≡ written_length w)
  pub one_written : (w x : Result ℕ Unwritten) → ShortFile w → ShortFile x → written_code w ≡ written_code x → w ≡ x
  pub verdict_numbers : (p : Plan) → Readable p → unpacked 2 (verdict_code (verdict p)) ≡ (200 + rule_number (verdict p)) ∷ rule_row (verdict p) ∷ []
  pub one_verdict : (p q : Plan) → Readable p → Readable q → verdict_code (verdict p) ≡ verdict_code (verdict q) → verdict p ≡ verdict q

pub record Decoded : Type 0 where
  pub fitting : Fitting
  pub apart : Apart
  pub decoding : Decoding
  -- so of every answer that can come number and values are read back from its code: of a plan that reads, and of cells and an event that are bytes
  pub back : (p : Plan) → Readable p → (cells holds bytes : List ℕ) → All Byte cells → All Byte bytes
      → let a = answer p (state_in cells holds) (first_event bytes) in unpacked (suc (length (answer_values a))) (answer_code a) ≡ answer_number a ∷ answer_values a
