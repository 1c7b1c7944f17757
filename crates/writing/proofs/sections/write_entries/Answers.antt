-- `writing::sections::write_entries`: the count's byte, and at each turn the entries before it are written and the others are left.
use Rattle.std.proofs.Common.{refl, arith}
use Rattle.plan.specs.File.{entry_file}
use Rattle.plan.specs.Records.{no_entry, entry_of}
use Rattle.writing.proofs.Writes.{left_fits, left_next, left_turn, left_stop, byte_start, byte_end, counted_is}
use Rattle.writing.proofs.sections.write_entries.Goals as goal

pub loop-entry-init : goal.loop-entry-init
loop-entry-init c = byte_start c.args.out.now c.entries-entries.ensures (counted_is entry_file _ refl refl) c.requires

pub write_entry-at-requires : goal.write_entry-at-requires
unfolding entry_of
write_entry-at-requires c = left_fits (left_turn c.loop-entry.entry c.loop-entry.invariant c.entries-entries.ensures no_entry (omega arith))

pub loop-entry-preserved : goal.loop-entry-preserved
unfolding entry_of
loop-entry-preserved c = left_next (left_turn c.loop-entry.entry c.loop-entry.invariant c.entries-entries.ensures no_entry (omega arith)) c.write_entry-at.ensures

pub returns : goal.returns
returns c =
    byte_end c.args.out.now c.entries-entries.ensures (counted_is entry_file _ refl refl)
    (left_stop c.loop-entry.entry c.loop-entry.invariant c.entries-entries.ensures (omega arith))
