-- A plan has one lowest broken rule, with one lowest row, and a file one first bad byte: so a verdict or a reader that meets demand 2 can't name
-- another.
use Rattle.std.specs.Prelude.{Ok}
use mathlib.Core.Path.{◌≡◌, sym, ap, ◌∙◌}
use mathlib.Core.Logic.{◌≢◌, ◌⊎◌, inl, inr}
use mathlib.Core.List.{List}
use Prim.Native.Nat.{ℕ}
use Rattle.plan.specs.Records.{Plan}
use Rattle.plan.specs.File.{Readable}
use Rattle.reading.specs.declared.Form.{Form}
use Rattle.reading.specs.Reading.{Got, form, got, form_number, form_offset, parse}
use Rattle.reading.proofs.Meaning.{readable_reads}
use Rattle.forms.proofs.Meaning.{form_exactly, parse_only}
use Rattle.rules.specs.Verdict.{rule_number, rule_row, Verdict}
use Rattle.rules.proofs.Verdicts.{broken_once}
use Rattle.demands.specs.Demands.{Reads, OneReading, Judges}

pub judged_once : (verdict other : Plan → Verdict) (p : Plan) → Readable p → Judges verdict
    → (rule_number (other p) ≢ rule_number (verdict p)) ⊎ (rule_row (other p) ≢ rule_row (verdict p)) → Judges other → ⊥
judged_once verdict other p reads d n o = differ (broken_once p _ _ _ _ (o.broken p reads (λ e. neither ((d.accepted p reads).1 ((o.accepted p reads).0 e)))) (d.broken p reads neither))
  where
    differ : (rule_number (other p) ≡ rule_number (verdict p)) × (rule_row (other p) ≡ rule_row (verdict p)) → ⊥
    differ (k, i) = elim n [ inl z ↦ z k | inr z ↦ z i ]

    neither : verdict p ≢ Ok tt
    neither e = let z = (o.accepted p reads).1 ((d.accepted p reads).0 e) ∙ sym e in differ (ap rule_number z, ap rule_row z)

-- Whatever meets demand 2 of reading is `parse`, which does.

pub parse_reads : Reads parse
parse_reads = record { plans = readable_reads; forms = λ file f. (form_exactly file f).1 }

pub reads_as_parse : (read : List ℕ → Got Plan) → Reads read → (file : List ℕ) → read file ≡ parse file
reads_as_parse read d = parse_only read d.plans d.forms

pub one_reading : OneReading
one_reading read other d o file = reads_as_parse read d file ∙ sym (reads_as_parse other o file)

abbrev number_of : Got Plan → ℕ
number_of (form f) = form_number f
number_of (got p at rest) = 0

abbrev offset_of : Got Plan → ℕ
offset_of (form f) = form_offset f
offset_of (got p at rest) = 0

pub read_once : (read other : List ℕ → Got Plan) (file : List ℕ) {f g : Form} → Reads read → read file ≡ form f → other file ≡ form g
    → (form_number g ≢ form_number f) ⊎ (form_offset g ≢ form_offset f) → Reads other → ⊥
read_once read other file {f} {g} d h k n o = elim n [ inl z ↦ z (same number_of) | inr z ↦ z (same offset_of) ]
  where
    same : (part : Got Plan → ℕ) → part (form g) ≡ part (form f)
    same part = ap part (sym k ∙ one_reading other read o d file ∙ h)
