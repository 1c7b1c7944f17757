-- `images::route_rooms`: a step answers as the reader of one record does.
use Rattle.std.specs.Prelude.{Result, ℕ, ◌≡◌}
use Rattle.std.proofs.Common.{rules}
use lib.ListN.{length}
use Rattle.plan.specs.Image.{plan_of}
use Rattle.plan.specs.Records.{Route}
use Rattle.reading.specs.declared.Form.{Form}
use Rattle.reading.specs.Calls.{freed}
use Rattle.reading.specs.Reading.{scanned, Reader, free}
use Rattle.reading.proofs.Scanned.{counted_read, free_same}
use Rattle.images.specs.Images.{route_room, route_rooms}
use Rattle.images.proofs.Rooms.{route_room_steady}
use Rattle.images.proofs.route_rooms.Goals as goal

pub returns : goal.returns
unfolding route_rooms
returns c =
    let reader : Reader Route = route_room (plan_of c.args.image.now).tracks (length (plan_of c.args.image.now).signals) in
    counted_read (λ least. reader) free _ (λ least. route_room_steady _ _) _ _ _ c.counted.ensures (λ at least answer post.
    let end : (r : Result ℕ Form) × (r ≡ scanned reader c.args.image.now at) = search rules in
    let step : answer ≡ freed end.0 = search rules in
    free_same reader _ _ _ end.1 step)
