-- `bench::turn`: what was read is fed, and there is room for its lines.
use Rattle.bench.proofs.Served.{turned, still}
use Rattle.bench.proofs.turn.Goals as goal

pub returns : goal.returns
returns g c =
    turned c.args.plan.now c.requires.serves c.unwrap_or-brought.ensures c.next-read.ensures (still c.next-read.auto.bytes c.requires.bytes_len_bound)
    c.requires.lines_most_in_bounds c.signalbox_feed-fed.ensures
