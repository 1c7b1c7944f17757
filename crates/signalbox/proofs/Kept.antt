-- What was loaded is written back, and what was written is loaded back, by the contracts of the calls alone. Assumes nothing.
use Rattle.std.specs.Prelude.{Ok}
use mathlib.Core.Path.{◌≡◌, refl, sym, ap, ◌∙◌}
use mathlib.Core.List.{List, []}
use Prim.Native.Nat.{ℕ, ◌≤◌, ◌<◌}
use lib.ListN.{length, take}
use Rattle.plan.specs.Limits.{image_size}
use Rattle.plan.specs.Records.{Plan}
use Rattle.plan.specs.File.{file_of, Readable}
use Rattle.plan.specs.Image.{plan_of}
use Rattle.reading.specs.Reading.{Got, form, got, parse}
use Rattle.loading.specs.Storing.{after_reading}
use Rattle.codes.specs.Codes.{read_code, written_code}
use Rattle.codes.proofs.Decoded.{decoded}
use Rattle.demands.specs.Ours.{our_writer}
use Rattle.demands.proofs.Ours.{shown}
use Rattle.signalbox.specs.Face.{Loaded, Filed}
use Rattle.signalbox.specs.Calls.{KeepsPlans}
use Rattle.signalbox.proofs.Faced.{some_form}

bytes_kept : (file image image' out out' : List ℕ) (r s : ℕ) → Loaded file image r image' → r ≡ 0 → length file ≤ length out → Filed image' out s out'
    → (s ≡ written_code (Ok (length file))) × (take (length file) out' ≡ file)
unfolding read_code after_reading
bytes_kept file image image' out out' r s loaded z h filed = go (parse file) refl (sym loaded.code ∙ z) loaded.holds
  where
    go : (g : Got Plan) → parse file ≡ g → read_code g ≡ 0 → image' ≡ after_reading g image → (s ≡ written_code (Ok (length file))) × (take (length file) out' ≡ file)
    go (form f) e c i = absurd (some_form f c)
    go (got p at rest) e c i =
        let (a, l) = shown.round_trip.back file out e h in (
          filed.code ∙ ap written_code (ap (λ (m : List ℕ). our_writer.answer m out) i ∙ a),
          ap (take (length file)) (filed.holds ∙ ap (λ (m : List ℕ). our_writer.leaves m out) i) ∙ l,
        )

-- a code that says a length is that of a file that was written
said_whole : (image out out' : List ℕ) (s size : ℕ) → length image ≡ image_size → Filed image out s out' → s ≡ written_code (Ok size) → size < 65536 → our_writer.answer image out ≡ Ok size
said_whole image out out' s size long filed e few =
    decoded.decoding.one_written (our_writer.answer image out) (Ok size) (decoded.fitting.files image (length out) long) few (sym filed.code ∙ e)

file_kept : (image out out' : List ℕ) (s size : ℕ) → length image ≡ image_size → Filed image out s out' → s ≡ written_code (Ok size) → size < 65536
    → Readable (plan_of image) × (take size out' ≡ file_of (plan_of image))
file_kept image out out' s size long filed e few =
    let (ok, own) = shown.round_trip.readable image out size long (said_whole image out out' s size long filed e few) in
    (ok, ap (take size) filed.holds ∙ own)

image_kept : (image out out' other other' : List ℕ) (r s size : ℕ) → length image ≡ image_size → Filed image out s out' → s ≡ written_code (Ok size) → size < 65536
    → Loaded (take size out') other r other' → (r ≡ 0) × (other' ≡ image)
unfolding read_code after_reading
image_kept image out out' other other' r s size long filed e few loaded =
    let (read, back) = shown.round_trip.again image out size long (said_whole image out out' s size long filed e few) in
    let reads : parse (take size out') ≡ got (plan_of image) size [] = ap (λ (l : List ℕ). parse (take size l)) filed.holds ∙ read in
    (loaded.code ∙ ap read_code reads, loaded.holds ∙ ap (λ (g : Got Plan). after_reading g other) reads ∙ back)

pub keeps_plans : KeepsPlans
keeps_plans = record { same_bytes = bytes_kept; its_file = file_kept; same_image = image_kept }
