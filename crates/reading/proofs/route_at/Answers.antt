-- `reading::route_at`: the start signal, then the five lists. A part that is refused answers for the route, and past it the rest does.
use lib.ListN.{length}
use Rattle.std.proofs.Common.{rules}
use Rattle.plan.specs.Limits.{most_clear}
use Rattle.plan.specs.Records.{Route}
use Rattle.plan.specs.Image.{plan_of}
use Rattle.reading.specs.Reading.{route, number, below, path_list, rising_list}
use Rattle.reading.proofs.Scanned.{number_steady, path_steady, rising_steady, points_steady}
use Rattle.reading.proofs.Chains.{Left, Part, all_left, part, last_part, told_as}
use Rattle.reading.proofs.route_at.Goals as goal

pub returns-in_err-path_from : goal.returns-in_err-path_from
unfolding route
returns-in_err-path_from c =
    let whole : Left Route = let plan = plan_of c.args.image.now in
    all_left (route plan.tracks (length plan.signals)) c.args.file.now c.args.at in
    let start-part : Part Route = let told = told_as (λ n. number (below n) 0) _ _ c.signals.ensures c.number_at.ensures in
    part _ _ _ _ whole.same (λ v. number_steady _ _) (λ v. told) in
    start-part.refused (search rules) c.in_err-path_from.was

pub returns-in_err-clear_from : goal.returns-in_err-clear_from
unfolding route
returns-in_err-clear_from c =
    let whole : Left Route = let plan = plan_of c.args.image.now in
    all_left (route plan.tracks (length plan.signals)) c.args.file.now c.args.at in
    let start-part : Part Route = let told = told_as (λ n. number (below n) 0) _ _ c.signals.ensures c.number_at.ensures in
    part _ _ _ _ whole.same (λ v. number_steady _ _) (λ v. told) in
    let start_left : Left Route = start-part.passed c.in_ok-path_from.was in
    let path-part : Part Route = let told = told_as path_list _ _ c.tracks-tracks.ensures c.path_list.ensures in
    part _ _ _ _ start_left.same (λ v. path_steady _) (λ v. told) in
    path-part.refused (search rules) c.in_err-clear_from.was

pub returns-in_err-normal_from : goal.returns-in_err-normal_from
unfolding route
returns-in_err-normal_from c =
    let whole : Left Route = let plan = plan_of c.args.image.now in
    all_left (route plan.tracks (length plan.signals)) c.args.file.now c.args.at in
    let start-part : Part Route = let told = told_as (λ n. number (below n) 0) _ _ c.signals.ensures c.number_at.ensures in
    part _ _ _ _ whole.same (λ v. number_steady _ _) (λ v. told) in
    let start_left : Left Route = start-part.passed c.in_ok-path_from.was in
    let path-part : Part Route = let told = told_as path_list _ _ c.tracks-tracks.ensures c.path_list.ensures in
    part _ _ _ _ start_left.same (λ v. path_steady _) (λ v. told) in
    let path-left : Left Route = path-part.passed c.in_ok-clear_from.was in
    let clear-part : Part Route = let told = told_as (λ n. rising_list n most_clear) _ _ c.tracks-tracks.ensures c.rising_list.ensures in
    part _ _ _ _ path-left.same (λ v. rising_steady _ _) (λ v. told) in
    clear-part.refused (search rules) c.in_err-normal_from.was

pub returns-in_err-reverse_from : goal.returns-in_err-reverse_from
unfolding route
returns-in_err-reverse_from c =
    let whole : Left Route = let plan = plan_of c.args.image.now in
    all_left (route plan.tracks (length plan.signals)) c.args.file.now c.args.at in
    let start-part : Part Route = let told = told_as (λ n. number (below n) 0) _ _ c.signals.ensures c.number_at.ensures in
    part _ _ _ _ whole.same (λ v. number_steady _ _) (λ v. told) in
    let start_left : Left Route = start-part.passed c.in_ok-path_from.was in
    let path-part : Part Route = let told = told_as path_list _ _ c.tracks-tracks.ensures c.path_list.ensures in
    part _ _ _ _ start_left.same (λ v. path_steady _) (λ v. told) in
    let path-left : Left Route = path-part.passed c.in_ok-clear_from.was in
    let clear-part : Part Route = let told = told_as (λ n. rising_list n most_clear) _ _ c.tracks-tracks.ensures c.rising_list.ensures in
    part _ _ _ _ path-left.same (λ v. rising_steady _ _) (λ v. told) in
    let clear-left : Left Route = clear-part.passed c.in_ok-normal_from.was in
    let normal-part : Part Route = part _ _ _ _ clear-left.same (λ v. points_steady _) (λ v. c.point_list.ensures) in
    normal-part.refused (search rules) c.in_err-reverse_from.was

pub returns-in_err-releases_from : goal.returns-in_err-releases_from
unfolding route
returns-in_err-releases_from c =
    let whole : Left Route = let plan = plan_of c.args.image.now in
    all_left (route plan.tracks (length plan.signals)) c.args.file.now c.args.at in
    let start-part : Part Route = let told = told_as (λ n. number (below n) 0) _ _ c.signals.ensures c.number_at.ensures in
    part _ _ _ _ whole.same (λ v. number_steady _ _) (λ v. told) in
    let start_left : Left Route = start-part.passed c.in_ok-path_from.was in
    let path-part : Part Route = let told = told_as path_list _ _ c.tracks-tracks.ensures c.path_list.ensures in
    part _ _ _ _ start_left.same (λ v. path_steady _) (λ v. told) in
    let path-left : Left Route = path-part.passed c.in_ok-clear_from.was in
    let clear-part : Part Route = let told = told_as (λ n. rising_list n most_clear) _ _ c.tracks-tracks.ensures c.rising_list.ensures in
    part _ _ _ _ path-left.same (λ v. rising_steady _ _) (λ v. told) in
    let clear-left : Left Route = clear-part.passed c.in_ok-normal_from.was in
    let normal-part : Part Route = part _ _ _ _ clear-left.same (λ v. points_steady _) (λ v. c.point_list.ensures) in
    let normal-left : Left Route = normal-part.passed c.in_ok-reverse_from.was in
    let reverse-part : Part Route = part _ _ _ _ normal-left.same (λ v. points_steady _) (λ v. c.point_list-2.ensures) in
    reverse-part.refused (search rules) c.in_err-releases_from.was

pub returns : goal.returns
unfolding route
returns c =
    let whole : Left Route = let plan = plan_of c.args.image.now in
    all_left (route plan.tracks (length plan.signals)) c.args.file.now c.args.at in
    let start-part : Part Route = let told = told_as (λ n. number (below n) 0) _ _ c.signals.ensures c.number_at.ensures in
    part _ _ _ _ whole.same (λ v. number_steady _ _) (λ v. told) in
    let start_left : Left Route = start-part.passed c.in_ok-path_from.was in
    let path-part : Part Route = let told = told_as path_list _ _ c.tracks-tracks.ensures c.path_list.ensures in
    part _ _ _ _ start_left.same (λ v. path_steady _) (λ v. told) in
    let path-left : Left Route = path-part.passed c.in_ok-clear_from.was in
    let clear-part : Part Route = let told = told_as (λ n. rising_list n most_clear) _ _ c.tracks-tracks.ensures c.rising_list.ensures in
    part _ _ _ _ path-left.same (λ v. rising_steady _ _) (λ v. told) in
    let clear-left : Left Route = clear-part.passed c.in_ok-normal_from.was in
    let normal-part : Part Route = part _ _ _ _ clear-left.same (λ v. points_steady _) (λ v. c.point_list.ensures) in
    let normal-left : Left Route = normal-part.passed c.in_ok-reverse_from.was in
    let reverse-part : Part Route = part _ _ _ _ normal-left.same (λ v. points_steady _) (λ v. c.point_list-2.ensures) in
    let reverse-left : Left Route = reverse-part.passed c.in_ok-releases_from.was in
    last_part _ _ _ _ reverse-left.same (λ v. c.release_list.ensures)
