-- The first line: what reading or checking finds. Assumes nothing.
use mathlib.Core.Path.{◌≡◌, refl}
use mathlib.Core.List.{List}
use Prim.Native.Nat.{ℕ, ◌/◌, ◌<◌, ◌≤◌}
use native.Mathlib.Omega.{arith}
use lib.ListN.{length}
use borrow.Author.Tests.{lt-ltb, le-ltb}
use Rattle.plan.specs.Image.{plan_of}
use Rattle.reading.specs.declared.Form.{Form}
use Rattle.reading.specs.Reading.{form, parse}
use Rattle.rules.specs.Verdict.{verdict, Verdict}
use Rattle.lines.specs.Lines.{form_line, verdict_line, line_most}
use Rattle.laws.specs.Written.{Wrote}
use Rattle.demands.specs.Session.{first_line}
use Rattle.codes.specs.Codes.{no_room}
use Rattle.signalbox.specs.Face.{too_many, unless, open_reason, Opened}
use Rattle.signalbox.proofs.Faced.{Read}

module _ (file out : List ℕ) where
  pub no_room_lem : length out / line_most < 1 → Opened (parse file) out (record { code = no_room; written = 0 }) out
  unfolding open_reason too_many unless
  no_room_lem h = let t = lt-ltb (length out / line_most) 1 h in record { code = rw t; written = rw t (record { written = refl; ends = refl; within = omega arith }) }

  module _ (h : 1 ≤ length out / line_most) {out' : List ℕ} {n : ℕ} where
    opened : Wrote (first_line (parse file)) out 0 out' n → Opened (parse file) out (record { code = 0; written = n }) out'
    unfolding open_reason too_many unless
    opened w = let t = le-ltb (length out / line_most) 1 h in record { code = rw t; written = rw t w }

    pub opened_form : {f : Form} → parse file ≡ form f → Wrote (form_line f) out 0 out' n → Opened (parse file) out (record { code = 0; written = n }) out'
    unfolding first_line
    opened_form e w = opened (rw e w)

    pub opened_plan : {image : List ℕ} {v : Verdict} (d : Read file image) → v ≡ verdict (plan_of image) → Wrote (verdict_line v) out 0 out' n
        → Opened (parse file) out (record { code = 0; written = n }) out'
    unfolding first_line
    opened_plan d e w = opened (rw (d.parses, ← d.shows, ← e) w)
