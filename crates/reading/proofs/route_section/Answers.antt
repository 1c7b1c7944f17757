-- `reading::route_section`: a step answers as the reader of one thing does.
use Rattle.std.specs.Prelude.{Result, ℕ, ◌≡◌}
use Rattle.std.proofs.Common.{rules}
use lib.ListN.{length}
use Rattle.plan.specs.Image.{plan_of}
use Rattle.plan.specs.Records.{Route}
use Rattle.reading.specs.declared.Form.{Form}
use Rattle.reading.specs.Calls.{freed}
use Rattle.reading.specs.Reading.{scanned, Reader, route_section, route, free}
use Rattle.reading.proofs.Scanned.{counted_read, route_steady, free_same}
use Rattle.reading.proofs.route_section.Goals as goal

pub returns : goal.returns
unfolding route_section
returns c =
    let reader : Reader Route = route (plan_of c.args.image.now).tracks (length (plan_of c.args.image.now).signals) in
    counted_read (λ least. reader) free _ (λ least. route_steady _ _) _ _ _ c.counted.ensures (λ at least answer post.
    let end : (r : Result ℕ Form) × (r ≡ scanned reader c.args.file.now at) = search rules in
    let step : answer ≡ freed end.0 = search rules in
    free_same reader _ _ _ end.1 step)
