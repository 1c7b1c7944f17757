-- `images::entry_rooms`: a step answers as the reader of one record does.
use Rattle.std.proofs.Common.{rules}
use lib.ListN.{length}
use Rattle.plan.specs.Image.{plan_of}
use Rattle.reading.specs.Reading.{after_entry}
use Rattle.reading.proofs.Scanned.{counted_read}
use Rattle.images.specs.Images.{entry_room, entry_rooms}
use Rattle.images.proofs.Rooms.{entry_room_steady}
use Rattle.images.proofs.entry_rooms.Goals as goal

pub returns : goal.returns
unfolding entry_rooms
returns c =
    counted_read (entry_room (length (plan_of c.args.image.now).tracks)) after_entry _ (entry_room_steady _) _ _ _ c.counted.ensures (search rules)
