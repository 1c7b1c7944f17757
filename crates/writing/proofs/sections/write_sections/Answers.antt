-- `writing::sections::write_sections`: four sections, each into the part that starts where the one before it ended.
use mathlib.Core.Path.{refl}
use mathlib.Core.List.{List}
use Prim.Native.Nat.{ℕ, ◌+◌}
use lib.ListN.{drop}
use Rattle.plan.specs.Records.{Plan}
use Rattle.plan.specs.Image.{plan_of}
use Rattle.writing.proofs.Writes.{Left, part_back, left_none, left_part, front_start, front_part, itself, plan_parts, plan_parts_lem}
use Rattle.writing.proofs.sections.write_sections.Goals as goal

-- What the function comes to: nothing is left once the entries are written.
pub returns : goal.returns
returns c =
    let plan : Plan = plan_of c.args.image.now in
    let with-tracks : List ℕ = part_back 0 c.args.out.now c.write_tracks-signals_from.new.out in
    let with-signals : List ℕ = part_back c.write_tracks-signals_from.result with-tracks c.write_signals.new.out in
    let signals-end : ℕ = c.write_tracks-signals_from.result + c.write_signals.result in
    let with-routes : List ℕ = part_back signals-end with-signals c.write_routes.new.out in
    let routes-end : ℕ = signals-end + c.write_routes.result in
    let SectionsLeft : ℕ → List ℕ → ℕ → Type 0 = λ n memory at. Left itself (plan_parts plan) c.args.out.now 0 (drop n (plan_parts plan)) memory at in
    let tracks-left : SectionsLeft 0 c.args.out.now 0 = front_start (plan_parts_lem plan) c.requires in
    let signals-left : SectionsLeft 1 with-tracks c.write_tracks-signals_from.result = front_part tracks-left refl c.write_tracks-signals_from.ensures in
    let routes-left : SectionsLeft 2 with-signals signals-end = left_part signals-left refl c.write_signals.ensures in
    let entries-left : SectionsLeft 3 with-routes routes-end = left_part routes-left refl c.write_routes.ensures in
    rw (plan_parts_lem plan) at (left_none (left_part entries-left refl c.write_entries.ensures))
