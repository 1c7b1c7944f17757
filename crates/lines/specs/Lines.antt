-- The printed lines of document 01, "The bench plan, byte by byte": an answer, a verdict or a form as the bytes of its line.
use Rattle.rules.specs.Verdict.{Verdict}
use Rattle.std.specs.Prelude.{List, [], ◌∷◌, ◌++◌, ℕ, ◌+◌, length, Err, Ok}
use denote.Bor.{Bor}
use Prim.Native.Char.{code}
use Prim.Native.String.{String, [] as empty, ◌∷◌ as ◌then◌}
use Rattle.reading.specs.declared.Form.{Form}
use Rattle.reading.specs.Reading.{form_number, form_offset}
use Rattle.events.specs.declared.Refusal.{Refusal}
use Rattle.events.specs.declared.Refusal.TheVariants.{IllFormed, BadEvent, NotRed, Occupied, Held, NotGreen, HomeOccupied, TrainIn, TrainOut, Red}
use Rattle.events.specs.declared.Harm.{Harm}
use Rattle.events.specs.declared.Harm.TheVariants.{Collision, RunThrough, Derailment}
use Rattle.events.specs.declared.Deed.{Deed}
use Rattle.events.specs.declared.Deed.TheVariants.{Granted, Cancelled, Entered, Moved, Left}
use Rattle.events.specs.declared.Answer.{Answer}
use Rattle.events.specs.declared.Answer.TheVariants.{Refused, Accident, Done}
use Rattle.events.specs.Answers.{refusal_number, harm_number, answer_values}
use Rattle.lines.specs.Decimal.{decimal, number_most}

-- the bytes of a text: each character here is one byte
unfoldable pub bytes_of : String → List ℕ
bytes_of empty = []
bytes_of (c then text) = code c ∷ bytes_of text

-- each line ends by byte 10
abbrev pub end : List ℕ
end = 10 ∷ []

-- words and numbers in turn, then the end
unfoldable pub line : List String → List ℕ → List ℕ
line [] numbers = end
line (word ∷ words) [] = end
line (word ∷ words) (n ∷ numbers) = bytes_of word ++ decimal n ++ line words numbers

-- the same of words and numbers as the code has them, and the room that they may need
unfoldable pub parts_line : List (Bor (List ℕ) × ℕ) → List ℕ
parts_line [] = end
parts_line (part ∷ parts) = part.0.now ++ decimal part.1 ++ parts_line parts

unfoldable pub parts_most : List (Bor (List ℕ) × ℕ) → ℕ
parts_most [] = 1
parts_most (part ∷ parts) = length part.0.now + number_most + parts_most parts

-- The words of an answer, each before its number. 13 names a track and the train on it, 16 a track, 14 a point, 19 a signal; 40 and 41 a track, 42 a
-- point.

unfoldable pub refusal_words : Refusal → List String
refusal_words IllFormed = []
refusal_words BadEvent = []
refusal_words NotRed = []
refusal_words (Occupied track train) = " track " ∷ " train " ∷ []
refusal_words (Held point) = " point " ∷ []
refusal_words NotGreen = []
refusal_words (HomeOccupied track) = " track " ∷ []
refusal_words TrainIn = []
refusal_words TrainOut = []
refusal_words (Red signal) = " signal " ∷ []

unfoldable pub harm_words : Harm → List String
harm_words (Collision track) = " track " ∷ []
harm_words (RunThrough track) = " track " ∷ []
harm_words (Derailment point) = " point " ∷ []

unfoldable pub deed_words : Deed → List String
deed_words (Granted route) = "granted " ∷ []
deed_words (Cancelled route) = "cancelled " ∷ []
deed_words (Entered train track) = "entered " ∷ " track " ∷ []
deed_words (Moved train from to) = "moved " ∷ " from " ∷ " to " ∷ []
deed_words (Left train from) = "left " ∷ " from " ∷ []

unfoldable pub answer_words : Answer → List String
answer_words (Refused refusal) = "refused " ∷ refusal_words refusal
answer_words (Accident harm) = "accident " ∷ harm_words harm
answer_words (Done deed) = deed_words deed

-- the number that the document's table gives; a deed has none there
unfoldable pub table_number : Answer → List ℕ
table_number (Refused refusal) = refusal_number refusal ∷ []
table_number (Accident harm) = harm_number harm ∷ []
table_number (Done deed) = []

unfoldable pub answer_line : Answer → List ℕ
answer_line answer = line (answer_words answer) (table_number answer ++ answer_values answer)

unfoldable pub verdict_line : Verdict → List ℕ
verdict_line (Ok u) = bytes_of "accepted" ++ end
verdict_line (Err b) = line ("rule " ∷ " row " ∷ []) (b.rule ∷ b.row ∷ [])

unfoldable pub form_line : Form → List ℕ
form_line form = line ("form " ∷ " at " ∷ []) (form_number form ∷ form_offset form ∷ [])

-- the longest line, whatever its numbers: `refused `, ` track ` and ` train `, each with a number, and the end
abbrev pub line_most : ℕ
line_most = 8 + number_most + (7 + number_most + (7 + number_most + 1))
