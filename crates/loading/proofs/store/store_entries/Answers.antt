-- `loading::store::store_entries`: the step stores a part as its definition says.
use mathlib.Core.Path.{◌∙◌}
use Rattle.std.proofs.Common.{rules}
use Rattle.loading.specs.Storing.{entry_part, copy_entries, copy_counted}
use Rattle.loading.proofs.Copying.{many_steps, many_copied}
use Rattle.loading.proofs.store.store_entries.Goals as goal

pub store_parts-requires-clause-place : goal.store_parts-requires-clause-place
store_parts-requires-clause-place c = search rules

pub store_parts-requires-clause-rooms : goal.store_parts-requires-clause-rooms
store_parts-requires-clause-rooms c =
    many_steps entry_part c.args.file.now (λ at to image room. search rules) (λ at to next image after told. search rules) _ _ _ c.requires.each

pub returns : goal.returns
unfolding copy_entries copy_counted
returns c = c.store_parts.ensures _ _ (λ at to next image after told. search rules) ∙ many_copied entry_part c.args.file.now _ _ _ _
