-- `writing::size::entries_size`: each is within its limit, so that the sum is small; it is what they come to, one after another.
use Rattle.std.proofs.Common.{◌≡◌, ◌∙◌, ℕ, ◌≤◌, ◌^◌, length, get_or, arith, rules, tests}
use Rattle.std.proofs.lemmas.Iterator.{YieldsList-from_range, YieldsList-from_map}
use Rattle.std.proofs.lemmas.Iterator.Adapters.{fits_from_length, at_most_from_yields_List}
use Rattle.std.proofs.lemmas.Iterator.Consumers.{sum_from_yields_List}
use Rattle.std.proofs.lemmas.List.FromFn.{length-range_with_len}
use Rattle.plan.specs.Limits.{most_entries}
use Rattle.plan.specs.File.{entry_file}
use Rattle.plan.specs.Records.{no_entry, entry_of}
use Rattle.plan.specs.Image.{plan_of}
use Rattle.plan.proofs.View.{entries_most}
use Rattle.writing.proofs.Lengths.{entry_most, files_sum}
use Rattle.writing.proofs.size.entries_size.Goals as goal

pub sum-requires-clause-fits : goal.sum-requires-clause-fits
sum-requires-clause-fits c =
    let n = c.entries.result in
    let few : n ≤ most_entries = omega (arith, c.entries.ensures, entries_most c.args.image.now) in
    fits_from_length _ _ most_entries (2 ^ 64) (at_most_from_yields_List (YieldsList-from_range 0 n n c.map.ensures.source (omega arith)) (omega (arith, few, length-range_with_len 0 n))) c.map.ensures.closure (omega arith)
    (λ x r q k. let told : (q ≡ _) × (r ≡ length (entry_file (entry_of (plan_of c.args.image.now) x))) = search (rules, tests) in (told.0, omega (arith, told.1, entry_most c.args.image.now x)))

pub returns : goal.returns
unfolding entry_of
returns c =
    let plan = plan_of c.args.image.now in
    let added = sum_from_yields_List c.map.result _ c.sum.ensures.ran (YieldsList-from_map _ (λ (i : ℕ). length (entry_file (get_or plan.entries i no_entry))) (YieldsList-from_range 0 c.entries.result c.entries.result c.map.ensures.source (omega arith)) c.map.ensures.closure (λ x r q k. search (rules, tests))) in
    added ∙ files_sum entry_file no_entry plan.entries c.entries.ensures
