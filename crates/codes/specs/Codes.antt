-- What the box says at its public face: each outcome as one number of 64 bits. Its lowest byte is the document's number, its next bytes are the
-- values that the document names, and the rest is 0.
use Rattle.writing.specs.declared.Unwritten.{Unwritten}
use Rattle.std.specs.Prelude.{ℕ, ◌+◌, ◌*◌, ◌%◌, List, [], ◌∷◌, Result}
use Rattle.plan.specs.Records.{Plan}
use Rattle.reading.specs.declared.Form.{Form}
use Rattle.reading.specs.Reading.{Got, form, got, form_number, form_offset}
use Rattle.writing.specs.declared.Unwritten.TheVariants.{NoRoom}
use Rattle.writing.specs.Writing.{unwritten_number, written_number, written_length}
use Rattle.rules.specs.Verdict.{verdict, rule_number, rule_row, Verdict}
use Rattle.events.specs.declared.Answer.{Answer}
use Rattle.events.specs.Answers.{answer_number, answer_values}

-- bytes, the first one lowest
unfoldable pub packed : List ℕ → ℕ
packed [] = 0
packed (b ∷ l) = b % 256 + 256 * packed l

-- an answer: its number, then its values
unfoldable pub answer_code : Answer → ℕ
answer_code a = packed (answer_number a ∷ answer_values a)

-- a form: its number, then its offset
unfoldable pub form_code : Form → ℕ
form_code f = form_number f + 256 * (form_offset f % 65536)

-- a verdict: 200 where the plan is accepted, and 200 more than the number of the rule that is broken, then its row
unfoldable pub verdict_code : Verdict → ℕ
verdict_code v = packed ((200 + rule_number v) ∷ rule_row v ∷ [])

-- what comes of writing a plan: its number, then the length of its file
unfoldable pub written_code : Result ℕ Unwritten → ℕ
written_code w = written_number w + 256 * (written_length w % 65536)

-- there is too little room for what is to be written, whatever that is
abbrev pub no_room : ℕ
no_room = unwritten_number NoRoom

-- reading: 0 where the file is a plan
unfoldable pub read_code : Got Plan → ℕ
read_code (form f) = form_code f
read_code (got p at rest) = 0

-- reading and then checking
unfoldable pub check_code : Got Plan → ℕ
check_code (form f) = form_code f
check_code (got p at rest) = verdict_code (verdict p)
