-- `images::route_room`: the start signal, then the five lists, each with its zeros. A part that is refused answers for the route, and past it the rest
-- does, from where the record has it.
use Prim.Native.Nat.{◌+◌, ◌*◌}
use mathlib.Core.Path.{◌≡◌}
use native.Mathlib.Omega.{arith}
use Rattle.std.proofs.Common.{rules}
use Rattle.plan.specs.Limits.{most_path, most_clear, most_points, most_releases, release_size, clear_at, normal_at, reverse_at, releases_at}
use Rattle.reading.specs.Reading.{number, below, path_list, rising_list}
use Rattle.reading.proofs.Scanned.{then_halt, then_step, then_last, number_passed, number_steady, path_steady, rising_steady, points_steady, releases_steady}
use Rattle.reading.proofs.Chains.{told_as}
use Rattle.reading.proofs.Sections.{path_sound, rising_list_sound, point_list_sound, release_list_sound}
use Rattle.images.specs.Images.{route_room, list_room}
use Rattle.images.proofs.Rooms.{roomy_steady, room_stop, room_told, room_next}
use Rattle.images.proofs.route_room.Goals as goal

pub returns-in_err-path_from : goal.returns-in_err-path_from
unfolding route_room list_room
returns-in_err-path_from c =
    then_halt _ _ _ _ (search rules) c.in_err-path_from.was (told_as (λ n. number (below n) 0) _ _ c.signals.ensures c.number_at.ensures)

pub returns-in_err-path_end : goal.returns-in_err-path_end
unfolding route_room list_room
returns-in_err-path_end c =
    then_step _ _ _ _ (told_as (λ n. number (below n) 0) _ _ c.signals.ensures c.number_at.ensures) (number_steady _ _) c.in_ok-path_from.was λ v0 h0.
    then_halt _ _ _ _ (search rules) c.in_err-path_end.was (room_stop (1 + most_path) (path_sound _) (path_steady _) _ _ (told_as path_list _ _ c.tracks-tracks.ensures c.path_list.ensures) c.in_err-path_end.was)

pub overflow_add-at : goal.overflow_add-at
overflow_add-at c = let b = number_passed _ _ _ _ c.number_at.ensures c.in_ok-path_from.was in omega (arith, b.within)

pub returns-in_err-clear_from : goal.returns-in_err-clear_from
unfolding route_room list_room
returns-in_err-clear_from c =
    let path-place : c.args.at + clear_at ≡ c.in_ok-path_from.path_from + (1 + most_path) = (let b = number_passed _ _ _ _ c.number_at.ensures c.in_ok-path_from.was in omega (arith, b.next)) in
    then_step _ _ _ _ (told_as (λ n. number (below n) 0) _ _ c.signals.ensures c.number_at.ensures) (number_steady _ _) c.in_ok-path_from.was λ v0 h0.
    then_halt _ _ _ _ (search rules) c.in_err-clear_from.was (room_told (1 + most_path) (path_sound _) (path_steady _) _ _ (told_as path_list _ _ c.tracks-tracks.ensures c.path_list.ensures) path-place c.in_ok-path_end.was c.zeros_to.ensures)

pub returns-in_err-clear_end : goal.returns-in_err-clear_end
unfolding route_room list_room
returns-in_err-clear_end c =
    let path-place : c.args.at + clear_at ≡ c.in_ok-path_from.path_from + (1 + most_path) = (let b = number_passed _ _ _ _ c.number_at.ensures c.in_ok-path_from.was in omega (arith, b.next)) in
    let clear-place : c.in_ok-clear_from.clear_from ≡ c.args.at + clear_at =
    room_next (1 + most_path) (path_sound _) (path_steady _) _ _ c.path_list.ensures path-place c.in_ok-path_end.was c.zeros_to.ensures (path_sound _).fits c.in_ok-clear_from.was in
    then_step _ _ _ _ (told_as (λ n. number (below n) 0) _ _ c.signals.ensures c.number_at.ensures) (number_steady _ _) c.in_ok-path_from.was λ v0 h0.
    then_step _ _ _ _ (room_told (1 + most_path) (path_sound _) (path_steady _) _ _ (told_as path_list _ _ c.tracks-tracks.ensures c.path_list.ensures) path-place c.in_ok-path_end.was c.zeros_to.ensures)
    (roomy_steady _ _ (path_steady _)) c.in_ok-clear_from.was λ v1 h1.
    then_halt _ _ _ _ (search rules) c.in_err-clear_end.was (room_stop (1 + most_clear) (rising_list_sound _ most_clear) (rising_steady _ _) _ _ (told_as (λ n. rising_list n most_clear) _ _ c.tracks-tracks.ensures c.rising_list.ensures) c.in_err-clear_end.was)

pub overflow_add-at-2 : goal.overflow_add-at-2
overflow_add-at-2 c = let b = number_passed _ _ _ _ c.number_at.ensures c.in_ok-path_from.was in omega (arith, b.within)

pub returns-in_err-normal_from : goal.returns-in_err-normal_from
unfolding route_room list_room
returns-in_err-normal_from c =
    let path-place : c.args.at + clear_at ≡ c.in_ok-path_from.path_from + (1 + most_path) = (let b = number_passed _ _ _ _ c.number_at.ensures c.in_ok-path_from.was in omega (arith, b.next)) in
    let clear-place : c.in_ok-clear_from.clear_from ≡ c.args.at + clear_at =
    room_next (1 + most_path) (path_sound _) (path_steady _) _ _ c.path_list.ensures path-place c.in_ok-path_end.was c.zeros_to.ensures (path_sound _).fits c.in_ok-clear_from.was in
    then_step _ _ _ _ (told_as (λ n. number (below n) 0) _ _ c.signals.ensures c.number_at.ensures) (number_steady _ _) c.in_ok-path_from.was λ v0 h0.
    then_step _ _ _ _ (room_told (1 + most_path) (path_sound _) (path_steady _) _ _ (told_as path_list _ _ c.tracks-tracks.ensures c.path_list.ensures) path-place c.in_ok-path_end.was c.zeros_to.ensures)
    (roomy_steady _ _ (path_steady _)) c.in_ok-clear_from.was λ v1 h1.
    then_halt _ _ _ _ (search rules) c.in_err-normal_from.was (room_told (1 + most_clear) (rising_list_sound _ most_clear) (rising_steady _ _) _ _ (told_as (λ n. rising_list n most_clear) _ _ c.tracks-tracks.ensures c.rising_list.ensures) (omega (arith, clear-place)) c.in_ok-clear_end.was c.zeros_to-2.ensures)

pub returns-in_err-normal_end : goal.returns-in_err-normal_end
unfolding route_room list_room
returns-in_err-normal_end c =
    let path-place : c.args.at + clear_at ≡ c.in_ok-path_from.path_from + (1 + most_path) = (let b = number_passed _ _ _ _ c.number_at.ensures c.in_ok-path_from.was in omega (arith, b.next)) in
    let clear-place : c.in_ok-clear_from.clear_from ≡ c.args.at + clear_at =
    room_next (1 + most_path) (path_sound _) (path_steady _) _ _ c.path_list.ensures path-place c.in_ok-path_end.was c.zeros_to.ensures (path_sound _).fits c.in_ok-clear_from.was in
    let normal-place : c.in_ok-normal_from.normal_from ≡ c.args.at + normal_at =
    room_next (1 + most_clear) (rising_list_sound _ most_clear) (rising_steady _ _) _ _ c.rising_list.ensures (omega (arith, clear-place)) c.in_ok-clear_end.was c.zeros_to-2.ensures (rising_list_sound _ most_clear).fits c.in_ok-normal_from.was in
    then_step _ _ _ _ (told_as (λ n. number (below n) 0) _ _ c.signals.ensures c.number_at.ensures) (number_steady _ _) c.in_ok-path_from.was λ v0 h0.
    then_step _ _ _ _ (room_told (1 + most_path) (path_sound _) (path_steady _) _ _ (told_as path_list _ _ c.tracks-tracks.ensures c.path_list.ensures) path-place c.in_ok-path_end.was c.zeros_to.ensures)
    (roomy_steady _ _ (path_steady _)) c.in_ok-clear_from.was λ v1 h1.
    then_step _ _ _ _ (room_told (1 + most_clear) (rising_list_sound _ most_clear) (rising_steady _ _) _ _ (told_as (λ n. rising_list n most_clear) _ _ c.tracks-tracks.ensures c.rising_list.ensures) (omega (arith, clear-place)) c.in_ok-clear_end.was c.zeros_to-2.ensures)
    (roomy_steady _ _ (rising_steady _ _)) c.in_ok-normal_from.was λ v2 h2.
    then_halt _ _ _ _ (search rules) c.in_err-normal_end.was (room_stop (1 + most_points) (point_list_sound _) (points_steady _) _ _ c.point_list.ensures c.in_err-normal_end.was)

pub overflow_add-at-3 : goal.overflow_add-at-3
overflow_add-at-3 c = let b = number_passed _ _ _ _ c.number_at.ensures c.in_ok-path_from.was in omega (arith, b.within)

pub returns-in_err-reverse_from : goal.returns-in_err-reverse_from
unfolding route_room list_room
returns-in_err-reverse_from c =
    let path-place : c.args.at + clear_at ≡ c.in_ok-path_from.path_from + (1 + most_path) = (let b = number_passed _ _ _ _ c.number_at.ensures c.in_ok-path_from.was in omega (arith, b.next)) in
    let clear-place : c.in_ok-clear_from.clear_from ≡ c.args.at + clear_at =
    room_next (1 + most_path) (path_sound _) (path_steady _) _ _ c.path_list.ensures path-place c.in_ok-path_end.was c.zeros_to.ensures (path_sound _).fits c.in_ok-clear_from.was in
    let normal-place : c.in_ok-normal_from.normal_from ≡ c.args.at + normal_at =
    room_next (1 + most_clear) (rising_list_sound _ most_clear) (rising_steady _ _) _ _ c.rising_list.ensures (omega (arith, clear-place)) c.in_ok-clear_end.was c.zeros_to-2.ensures (rising_list_sound _ most_clear).fits c.in_ok-normal_from.was in
    then_step _ _ _ _ (told_as (λ n. number (below n) 0) _ _ c.signals.ensures c.number_at.ensures) (number_steady _ _) c.in_ok-path_from.was λ v0 h0.
    then_step _ _ _ _ (room_told (1 + most_path) (path_sound _) (path_steady _) _ _ (told_as path_list _ _ c.tracks-tracks.ensures c.path_list.ensures) path-place c.in_ok-path_end.was c.zeros_to.ensures)
    (roomy_steady _ _ (path_steady _)) c.in_ok-clear_from.was λ v1 h1.
    then_step _ _ _ _ (room_told (1 + most_clear) (rising_list_sound _ most_clear) (rising_steady _ _) _ _ (told_as (λ n. rising_list n most_clear) _ _ c.tracks-tracks.ensures c.rising_list.ensures) (omega (arith, clear-place)) c.in_ok-clear_end.was c.zeros_to-2.ensures)
    (roomy_steady _ _ (rising_steady _ _)) c.in_ok-normal_from.was λ v2 h2.
    then_halt _ _ _ _ (search rules) c.in_err-reverse_from.was (room_told (1 + most_points) (point_list_sound _) (points_steady _) _ _ c.point_list.ensures (omega (arith, normal-place)) c.in_ok-normal_end.was c.zeros_to-3.ensures)

pub returns-in_err-reverse_end : goal.returns-in_err-reverse_end
unfolding route_room list_room
returns-in_err-reverse_end c =
    let path-place : c.args.at + clear_at ≡ c.in_ok-path_from.path_from + (1 + most_path) = (let b = number_passed _ _ _ _ c.number_at.ensures c.in_ok-path_from.was in omega (arith, b.next)) in
    let clear-place : c.in_ok-clear_from.clear_from ≡ c.args.at + clear_at =
    room_next (1 + most_path) (path_sound _) (path_steady _) _ _ c.path_list.ensures path-place c.in_ok-path_end.was c.zeros_to.ensures (path_sound _).fits c.in_ok-clear_from.was in
    let normal-place : c.in_ok-normal_from.normal_from ≡ c.args.at + normal_at =
    room_next (1 + most_clear) (rising_list_sound _ most_clear) (rising_steady _ _) _ _ c.rising_list.ensures (omega (arith, clear-place)) c.in_ok-clear_end.was c.zeros_to-2.ensures (rising_list_sound _ most_clear).fits c.in_ok-normal_from.was in
    let reverse-place : c.in_ok-reverse_from.reverse_from ≡ c.args.at + reverse_at =
    room_next (1 + most_points) (point_list_sound _) (points_steady _) _ _ c.point_list.ensures (omega (arith, normal-place)) c.in_ok-normal_end.was c.zeros_to-3.ensures (point_list_sound _).fits c.in_ok-reverse_from.was in
    then_step _ _ _ _ (told_as (λ n. number (below n) 0) _ _ c.signals.ensures c.number_at.ensures) (number_steady _ _) c.in_ok-path_from.was λ v0 h0.
    then_step _ _ _ _ (room_told (1 + most_path) (path_sound _) (path_steady _) _ _ (told_as path_list _ _ c.tracks-tracks.ensures c.path_list.ensures) path-place c.in_ok-path_end.was c.zeros_to.ensures)
    (roomy_steady _ _ (path_steady _)) c.in_ok-clear_from.was λ v1 h1.
    then_step _ _ _ _ (room_told (1 + most_clear) (rising_list_sound _ most_clear) (rising_steady _ _) _ _ (told_as (λ n. rising_list n most_clear) _ _ c.tracks-tracks.ensures c.rising_list.ensures) (omega (arith, clear-place)) c.in_ok-clear_end.was c.zeros_to-2.ensures)
    (roomy_steady _ _ (rising_steady _ _)) c.in_ok-normal_from.was λ v2 h2.
    then_step _ _ _ _ (room_told (1 + most_points) (point_list_sound _) (points_steady _) _ _ c.point_list.ensures (omega (arith, normal-place)) c.in_ok-normal_end.was c.zeros_to-3.ensures)
    (roomy_steady _ _ (points_steady _)) c.in_ok-reverse_from.was λ v3 h3.
    then_halt _ _ _ _ (search rules) c.in_err-reverse_end.was (room_stop (1 + most_points) (point_list_sound _) (points_steady _) _ _ c.point_list-2.ensures c.in_err-reverse_end.was)

pub overflow_add-at-4 : goal.overflow_add-at-4
overflow_add-at-4 c = let b = number_passed _ _ _ _ c.number_at.ensures c.in_ok-path_from.was in omega (arith, b.within)

pub returns-in_err-releases_from : goal.returns-in_err-releases_from
unfolding route_room list_room
returns-in_err-releases_from c =
    let path-place : c.args.at + clear_at ≡ c.in_ok-path_from.path_from + (1 + most_path) = (let b = number_passed _ _ _ _ c.number_at.ensures c.in_ok-path_from.was in omega (arith, b.next)) in
    let clear-place : c.in_ok-clear_from.clear_from ≡ c.args.at + clear_at =
    room_next (1 + most_path) (path_sound _) (path_steady _) _ _ c.path_list.ensures path-place c.in_ok-path_end.was c.zeros_to.ensures (path_sound _).fits c.in_ok-clear_from.was in
    let normal-place : c.in_ok-normal_from.normal_from ≡ c.args.at + normal_at =
    room_next (1 + most_clear) (rising_list_sound _ most_clear) (rising_steady _ _) _ _ c.rising_list.ensures (omega (arith, clear-place)) c.in_ok-clear_end.was c.zeros_to-2.ensures (rising_list_sound _ most_clear).fits c.in_ok-normal_from.was in
    let reverse-place : c.in_ok-reverse_from.reverse_from ≡ c.args.at + reverse_at =
    room_next (1 + most_points) (point_list_sound _) (points_steady _) _ _ c.point_list.ensures (omega (arith, normal-place)) c.in_ok-normal_end.was c.zeros_to-3.ensures (point_list_sound _).fits c.in_ok-reverse_from.was in
    then_step _ _ _ _ (told_as (λ n. number (below n) 0) _ _ c.signals.ensures c.number_at.ensures) (number_steady _ _) c.in_ok-path_from.was λ v0 h0.
    then_step _ _ _ _ (room_told (1 + most_path) (path_sound _) (path_steady _) _ _ (told_as path_list _ _ c.tracks-tracks.ensures c.path_list.ensures) path-place c.in_ok-path_end.was c.zeros_to.ensures)
    (roomy_steady _ _ (path_steady _)) c.in_ok-clear_from.was λ v1 h1.
    then_step _ _ _ _ (room_told (1 + most_clear) (rising_list_sound _ most_clear) (rising_steady _ _) _ _ (told_as (λ n. rising_list n most_clear) _ _ c.tracks-tracks.ensures c.rising_list.ensures) (omega (arith, clear-place)) c.in_ok-clear_end.was c.zeros_to-2.ensures)
    (roomy_steady _ _ (rising_steady _ _)) c.in_ok-normal_from.was λ v2 h2.
    then_step _ _ _ _ (room_told (1 + most_points) (point_list_sound _) (points_steady _) _ _ c.point_list.ensures (omega (arith, normal-place)) c.in_ok-normal_end.was c.zeros_to-3.ensures)
    (roomy_steady _ _ (points_steady _)) c.in_ok-reverse_from.was λ v3 h3.
    then_halt _ _ _ _ (search rules) c.in_err-releases_from.was (room_told (1 + most_points) (point_list_sound _) (points_steady _) _ _ c.point_list-2.ensures (omega (arith, reverse-place)) c.in_ok-reverse_end.was c.zeros_to-4.ensures)

pub returns-in_err-releases_end : goal.returns-in_err-releases_end
unfolding route_room list_room
returns-in_err-releases_end c =
    let path-place : c.args.at + clear_at ≡ c.in_ok-path_from.path_from + (1 + most_path) = (let b = number_passed _ _ _ _ c.number_at.ensures c.in_ok-path_from.was in omega (arith, b.next)) in
    let clear-place : c.in_ok-clear_from.clear_from ≡ c.args.at + clear_at =
    room_next (1 + most_path) (path_sound _) (path_steady _) _ _ c.path_list.ensures path-place c.in_ok-path_end.was c.zeros_to.ensures (path_sound _).fits c.in_ok-clear_from.was in
    let normal-place : c.in_ok-normal_from.normal_from ≡ c.args.at + normal_at =
    room_next (1 + most_clear) (rising_list_sound _ most_clear) (rising_steady _ _) _ _ c.rising_list.ensures (omega (arith, clear-place)) c.in_ok-clear_end.was c.zeros_to-2.ensures (rising_list_sound _ most_clear).fits c.in_ok-normal_from.was in
    let reverse-place : c.in_ok-reverse_from.reverse_from ≡ c.args.at + reverse_at =
    room_next (1 + most_points) (point_list_sound _) (points_steady _) _ _ c.point_list.ensures (omega (arith, normal-place)) c.in_ok-normal_end.was c.zeros_to-3.ensures (point_list_sound _).fits c.in_ok-reverse_from.was in
    let releases-place : c.in_ok-releases_from.releases_from ≡ c.args.at + releases_at =
    room_next (1 + most_points) (point_list_sound _) (points_steady _) _ _ c.point_list-2.ensures (omega (arith, reverse-place)) c.in_ok-reverse_end.was c.zeros_to-4.ensures (point_list_sound _).fits c.in_ok-releases_from.was in
    then_step _ _ _ _ (told_as (λ n. number (below n) 0) _ _ c.signals.ensures c.number_at.ensures) (number_steady _ _) c.in_ok-path_from.was λ v0 h0.
    then_step _ _ _ _ (room_told (1 + most_path) (path_sound _) (path_steady _) _ _ (told_as path_list _ _ c.tracks-tracks.ensures c.path_list.ensures) path-place c.in_ok-path_end.was c.zeros_to.ensures)
    (roomy_steady _ _ (path_steady _)) c.in_ok-clear_from.was λ v1 h1.
    then_step _ _ _ _ (room_told (1 + most_clear) (rising_list_sound _ most_clear) (rising_steady _ _) _ _ (told_as (λ n. rising_list n most_clear) _ _ c.tracks-tracks.ensures c.rising_list.ensures) (omega (arith, clear-place)) c.in_ok-clear_end.was c.zeros_to-2.ensures)
    (roomy_steady _ _ (rising_steady _ _)) c.in_ok-normal_from.was λ v2 h2.
    then_step _ _ _ _ (room_told (1 + most_points) (point_list_sound _) (points_steady _) _ _ c.point_list.ensures (omega (arith, normal-place)) c.in_ok-normal_end.was c.zeros_to-3.ensures)
    (roomy_steady _ _ (points_steady _)) c.in_ok-reverse_from.was λ v3 h3.
    then_step _ _ _ _ (room_told (1 + most_points) (point_list_sound _) (points_steady _) _ _ c.point_list-2.ensures (omega (arith, reverse-place)) c.in_ok-reverse_end.was c.zeros_to-4.ensures)
    (roomy_steady _ _ (points_steady _)) c.in_ok-releases_from.was λ v4 h4.
    then_halt _ _ _ _ (search rules) c.in_err-releases_end.was (room_stop (1 + release_size * most_releases) (release_list_sound _) (releases_steady _) _ _ c.release_list.ensures c.in_err-releases_end.was)

pub overflow_add-at-5 : goal.overflow_add-at-5
overflow_add-at-5 c = let b = number_passed _ _ _ _ c.number_at.ensures c.in_ok-path_from.was in omega (arith, b.within)

pub returns : goal.returns
unfolding route_room list_room
returns c =
    let path-place : c.args.at + clear_at ≡ c.in_ok-path_from.path_from + (1 + most_path) = (let b = number_passed _ _ _ _ c.number_at.ensures c.in_ok-path_from.was in omega (arith, b.next)) in
    let clear-place : c.in_ok-clear_from.clear_from ≡ c.args.at + clear_at =
    room_next (1 + most_path) (path_sound _) (path_steady _) _ _ c.path_list.ensures path-place c.in_ok-path_end.was c.zeros_to.ensures (path_sound _).fits c.in_ok-clear_from.was in
    let normal-place : c.in_ok-normal_from.normal_from ≡ c.args.at + normal_at =
    room_next (1 + most_clear) (rising_list_sound _ most_clear) (rising_steady _ _) _ _ c.rising_list.ensures (omega (arith, clear-place)) c.in_ok-clear_end.was c.zeros_to-2.ensures (rising_list_sound _ most_clear).fits c.in_ok-normal_from.was in
    let reverse-place : c.in_ok-reverse_from.reverse_from ≡ c.args.at + reverse_at =
    room_next (1 + most_points) (point_list_sound _) (points_steady _) _ _ c.point_list.ensures (omega (arith, normal-place)) c.in_ok-normal_end.was c.zeros_to-3.ensures (point_list_sound _).fits c.in_ok-reverse_from.was in
    let releases-place : c.in_ok-releases_from.releases_from ≡ c.args.at + releases_at =
    room_next (1 + most_points) (point_list_sound _) (points_steady _) _ _ c.point_list-2.ensures (omega (arith, reverse-place)) c.in_ok-reverse_end.was c.zeros_to-4.ensures (point_list_sound _).fits c.in_ok-releases_from.was in
    then_step _ _ _ _ (told_as (λ n. number (below n) 0) _ _ c.signals.ensures c.number_at.ensures) (number_steady _ _) c.in_ok-path_from.was λ v0 h0.
    then_step _ _ _ _ (room_told (1 + most_path) (path_sound _) (path_steady _) _ _ (told_as path_list _ _ c.tracks-tracks.ensures c.path_list.ensures) path-place c.in_ok-path_end.was c.zeros_to.ensures)
    (roomy_steady _ _ (path_steady _)) c.in_ok-clear_from.was λ v1 h1.
    then_step _ _ _ _ (room_told (1 + most_clear) (rising_list_sound _ most_clear) (rising_steady _ _) _ _ (told_as (λ n. rising_list n most_clear) _ _ c.tracks-tracks.ensures c.rising_list.ensures) (omega (arith, clear-place)) c.in_ok-clear_end.was c.zeros_to-2.ensures)
    (roomy_steady _ _ (rising_steady _ _)) c.in_ok-normal_from.was λ v2 h2.
    then_step _ _ _ _ (room_told (1 + most_points) (point_list_sound _) (points_steady _) _ _ c.point_list.ensures (omega (arith, normal-place)) c.in_ok-normal_end.was c.zeros_to-3.ensures)
    (roomy_steady _ _ (points_steady _)) c.in_ok-reverse_from.was λ v3 h3.
    then_step _ _ _ _ (room_told (1 + most_points) (point_list_sound _) (points_steady _) _ _ c.point_list-2.ensures (omega (arith, reverse-place)) c.in_ok-reverse_end.was c.zeros_to-4.ensures)
    (roomy_steady _ _ (points_steady _)) c.in_ok-releases_from.was λ v4 h4.
    then_last _ _ _ _ (room_told (1 + release_size * most_releases) (release_list_sound _) (releases_steady _) _ _ c.release_list.ensures (omega (arith, releases-place)) c.in_ok-releases_end.was c.zeros_to-5.ensures)
