-- `reading::track_section`: the count, which its things' reader knows, then the tracks.
use Rattle.std.specs.Prelude.{Result, ℕ, ◌≡◌}
use Rattle.std.proofs.Common.{rules, ◌∙◌}
use Rattle.reading.specs.declared.Form.{Form}
use Rattle.reading.specs.Calls.{freed}
use Rattle.reading.specs.Reading.{scanned, track_section, track, free}
use Rattle.reading.proofs.Scanned.{counted_refused, counted_byte, counted_start, many_read, track_steady, free_same}
use Rattle.reading.proofs.track_section.Goals as goal

pub returns-in_err-first : goal.returns-in_err-first
unfolding track_section
returns-in_err-first c = counted_refused _ _ _ _ _ c.count_of.ensures (search rules) c.in_err-first.was

pub bounds-file-from : goal.bounds-file-from
bounds-file-from c = (counted_byte _ _ _ _ c.count_of.ensures c.in_ok-first.was).byte.within

pub returns : goal.returns
unfolding track_section
returns c =
    let tracks = c.from-tracks.result in
    many_read (λ least. track tracks) free _ (λ least. track_steady _) _ _ c.many.ensures (λ at least answer post.
    let end : (r : Result ℕ Form) × (r ≡ scanned (track tracks) c.args.file.now at) = search rules in
    let step : answer ≡ freed end.0 = search rules in
    free_same (track tracks) _ _ _ end.1 step)
    ∙ counted_start _ _ _ _ _ c.count_of.ensures c.in_ok-first.was c.from-tracks.ensures
