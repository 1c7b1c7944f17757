-- `writing::sections::write_entries`: the count's byte, and at each turn the entries before it are written and the others are left.
use lib.ListN.{drop}
use Rattle.plan.specs.File.{entry_file}
use Rattle.plan.specs.Image.{plan_of}
use Rattle.writing.proofs.Writes.{Left}
use Rattle.writing.proofs.sections.write_entries.Given as goal

abbrev pub invariant-loop-entry : goal.invariant-loop-entry
invariant-loop-entry l = let all = (plan_of l.image).entries in Left entry_file all l.initial.out 1 (drop l.entry all) l.out l.at
