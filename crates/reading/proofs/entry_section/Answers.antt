-- `reading::entry_section`: a step answers as the reader of one thing does.
use Rattle.std.proofs.Common.{rules}
use Rattle.reading.specs.Reading.{entry_section, entry, after_entry}
use Rattle.reading.proofs.Scanned.{counted_read, entry_steady}
use Rattle.reading.proofs.entry_section.Goals as goal

pub returns : goal.returns
unfolding entry_section
returns c =
    counted_read (entry c.args.tracks) after_entry _ (entry_steady _) _ _ _ c.counted.ensures (search rules)
