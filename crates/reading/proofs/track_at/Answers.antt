-- `reading::track_at`: the kind, then three numbers with the limits of that kind. A part that is refused answers for the track, and past it the rest does.
use mathlib.Core.Path.{refl}
use Rattle.std.proofs.Common.{rules}
use Rattle.plan.specs.declared.Track.{Track}
use Rattle.reading.specs.Reading.{track}
use Rattle.reading.proofs.Scanned.{number_steady, number_passed, limit_told}
use Rattle.reading.proofs.Chains.{Left, Part, all_left, part, last_part}
use Rattle.reading.proofs.track_at.Goals as goal

pub returns-in_err-first : goal.returns-in_err-first
unfolding track
returns-in_err-first c =
    let whole : Left Track = all_left (track c.args.tracks) c.args.file.now c.args.at in
    let kind-part : Part Track = part _ _ _ _ whole.same (λ v. number_steady _ _) (λ v. c.number_at.ensures) in
    kind-part.refused (search rules) c.in_err-first.was

pub bounds-file-at : goal.bounds-file-at
bounds-file-at c =
    (number_passed _ _ _ _ c.number_at.ensures c.in_ok-first.was).within

pub returns-in_err-second : goal.returns-in_err-second
unfolding track
returns-in_err-second c =
    let whole : Left Track = all_left (track c.args.tracks) c.args.file.now c.args.at in
    let kind-part : Part Track = part _ _ _ _ whole.same (λ v. number_steady _ _) (λ v. c.number_at.ensures) in
    let kind-left : Left Track = kind-part.passed c.in_ok-first.was in
    let first_part : Part Track = part _ _ _ _ kind-left.same (λ v. number_steady _ _)
    (λ v. limit_told _ _ 0 _ _ _ v.2 refl c.limit_of.ensures c.number_at-2.ensures) in
    first_part.refused (search rules) c.in_err-second.was

pub returns-in_err-third : goal.returns-in_err-third
unfolding track
returns-in_err-third c =
    let whole : Left Track = all_left (track c.args.tracks) c.args.file.now c.args.at in
    let kind-part : Part Track = part _ _ _ _ whole.same (λ v. number_steady _ _) (λ v. c.number_at.ensures) in
    let kind-left : Left Track = kind-part.passed c.in_ok-first.was in
    let first_part : Part Track = part _ _ _ _ kind-left.same (λ v. number_steady _ _)
    (λ v. limit_told _ _ 0 _ _ _ v.2 refl c.limit_of.ensures c.number_at-2.ensures) in
    let first-left : Left Track = first_part.passed c.in_ok-second.was in
    let second-part : Part Track = part _ _ _ _ first-left.same (λ v. number_steady _ _)
    (λ v. limit_told _ _ 1 _ _ _ v.0.2 refl c.limit_of-2.ensures c.number_at-3.ensures) in
    second-part.refused (search rules) c.in_err-third.was

pub returns : goal.returns
unfolding track
returns c =
    let whole : Left Track = all_left (track c.args.tracks) c.args.file.now c.args.at in
    let kind-part : Part Track = part _ _ _ _ whole.same (λ v. number_steady _ _) (λ v. c.number_at.ensures) in
    let kind-left : Left Track = kind-part.passed c.in_ok-first.was in
    let first_part : Part Track = part _ _ _ _ kind-left.same (λ v. number_steady _ _)
    (λ v. limit_told _ _ 0 _ _ _ v.2 refl c.limit_of.ensures c.number_at-2.ensures) in
    let first-left : Left Track = first_part.passed c.in_ok-second.was in
    let second-part : Part Track = part _ _ _ _ first-left.same (λ v. number_steady _ _)
    (λ v. limit_told _ _ 1 _ _ _ v.0.2 refl c.limit_of-2.ensures c.number_at-3.ensures) in
    let second-left : Left Track = second-part.passed c.in_ok-third.was in
    last_part _ _ _ _ second-left.same
    (λ v. limit_told _ _ 2 _ _ _ v.0.0.2 refl c.limit_of-3.ensures c.number_at-4.ensures)
