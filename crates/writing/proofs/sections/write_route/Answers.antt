-- `writing::sections::write_route`: the start signal's byte, and the five lists, each from where the one before it ended.
use Rattle.std.proofs.Common.{arith}
use Rattle.plan.specs.File.{release_file, route_file}
use Rattle.laws.specs.Written.{wrote_then}
use Rattle.writing.proofs.Lengths.{release_count}
use Rattle.writing.proofs.Writes.{byte_wrote, counted_is}
use Rattle.writing.proofs.sections.write_route.Goals as goal

pub returns : goal.returns
unfolding route_file
returns c =
    let read = c.releases_of-releases.ensures in
    wrote_then (byte_wrote c.args.out.now c.args.at c.start_byte.ensures (omega (arith, c.requires)))
    (wrote_then (rw c.path_of.ensures at c.put_list-clear_at.ensures)
    (wrote_then (rw c.clear_of.ensures at c.put_list-normal_at.ensures)
    (wrote_then (rw c.normal_of.ensures at c.put_list-reverse_at.ensures)
    (wrote_then (rw c.reverse_of.ensures at c.put_list-releases_at.ensures)
    (rw (counted_is release_file _ (release_count _ read) read) at c.put_counted.ensures)))))
