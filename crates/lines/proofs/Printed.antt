-- The lines that document 01 writes out, computed from the definitions.
use Rattle.rules.specs.Verdict.{broken}
use Rattle.std.specs.Prelude.{Ok}
use mathlib.Core.Path.{◌≡◌, refl}
use mathlib.Core.List.{[], ◌∷◌, ◌++◌, map}
use Rattle.reading.specs.declared.Form.TheVariants.{BadNumber, LeftOver}
use Rattle.events.specs.declared.Answer.TheVariants.{Refused, Accident, Done}
use Rattle.events.specs.declared.Deed.TheVariants.{Granted, Cancelled, Entered, Moved, Left}
use Rattle.events.specs.declared.Refusal.TheVariants.{NotRed, Occupied, Held, HomeOccupied, Red}
use Rattle.events.specs.declared.Harm.TheVariants.{Collision, RunThrough, Derailment}
use Rattle.events.specs.Answers.{refusal_number, refusal_values, harm_number, harm_values, deed_values, answer_values}
use Rattle.lines.specs.Decimal.{decimal_in, decimal}
use Rattle.lines.specs.Lines.{bytes_of, line, refusal_words, harm_words, deed_words, answer_words, table_number, answer_line, verdict_line, form_line}

printed : map answer_line
    (Done (Entered 1 0) ∷ Refused (Red 0) ∷ Done (Granted 0) ∷ Refused (Held 2) ∷ Done (Moved 1 0 2) ∷ Done (Moved 1 2 3) ∷ Done (Left 1 3)
    ∷ Done (Granted 1) ∷ Done (Cancelled 0) ∷ Refused NotRed ∷ Refused (Occupied 2 1) ∷ Refused (HomeOccupied 0) ∷ Accident (Collision 0) ∷ Accident (RunThrough 2) ∷ Accident (Derailment 2) ∷ [])
    ++ map verdict_line (Ok tt ∷ broken 8 0 ∷ broken 12 15 ∷ [])
    ++ map form_line (BadNumber 12 ∷ LeftOver 18446744073709551615 ∷ [])
    ≡ map bytes_of
    ("entered 1 track 0\n" ∷ "refused 19 signal 0\n" ∷ "granted 0\n" ∷ "refused 14 point 2\n" ∷ "moved 1 from 0 to 2\n" ∷ "moved 1 from 2 to 3\n"
    ∷ "left 1 from 3\n" ∷ "granted 1\n" ∷ "cancelled 0\n" ∷ "refused 12\n" ∷ "refused 13 track 2 train 1\n" ∷ "refused 16 track 0\n"
    ∷ "accident 40 track 0\n" ∷ "accident 41 track 2\n" ∷ "accident 42 point 2\n" ∷ "accepted\n" ∷ "rule 8 row 0\n" ∷ "rule 12 row 15\n"
    ∷ "form 3 at 12\n" ∷ "form 5 at 18446744073709551615\n" ∷ [])
unfolding answer_line verdict_line form_line answer_words table_number refusal_words harm_words deed_words line bytes_of decimal decimal_in refusal_number refusal_values harm_number harm_values deed_values answer_values
printed = refl
