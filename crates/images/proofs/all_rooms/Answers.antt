-- `images::all_rooms`: the four sections, each with its zeros. A section that is refused answers for the image, and past it the rest does, from where
-- the image has it. What the code knows of tracks and signals is what the image shows, and that is what was read.
use Rattle.reading.specs.declared.Form.{Form}
use Rattle.std.specs.Prelude.{Result}
use Rattle.std.proofs.Common.{rules}
use mathlib.Core.Path.{◌≡◌, refl, ap, ◌∙◌}
use mathlib.Core.List.{List}
use Prim.Native.Nat.{ℕ, ◌+◌, ◌*◌}
use lib.ListN.{length, drop}
use Rattle.plan.specs.Limits.{most_tracks, most_signals, most_routes, most_entries, track_size, route_size, entry_size, tracks_at, signals_at, routes_at, entries_at}
use Rattle.plan.specs.Image.{plan_of}
use Rattle.reading.specs.Reading.{Reader, scanned, rising_list, signal_section}
use Rattle.reading.proofs.Scanned.{then_halt, then_step, then_last, tracks_steady, rising_steady}
use Rattle.reading.proofs.Chains.{told_as}
use Rattle.reading.proofs.Sections.{track_section_sound, rising_list_sound}
use Rattle.images.specs.Images.{rooms, list_room, route_rooms, entry_rooms}
use Rattle.images.proofs.Roomy.{route_rooms_sound, entry_rooms_sound}
use Rattle.images.proofs.Rooms.{roomy_steady, room_stop, room_told, room_next, routes_fit, route_rooms_steady, entry_rooms_steady}
use Rattle.images.proofs.Standing.{tracks_known, signals_known}
use Rattle.images.proofs.all_rooms.Goals as goal

-- what is left of the image, from where it stands there
moved : {B : Type 0} (reader : Reader B) (image : List ℕ) {x : Result ℕ Form} {from to : ℕ} → from ≡ to → x ≡ scanned reader image to → x ≡ scanned reader image from
moved reader image e h = rw e h

pub returns-in_err-tracks_end : goal.returns-in_err-tracks_end
unfolding rooms list_room signal_section
returns-in_err-tracks_end c =
    then_halt _ _ _ _ (search rules) c.in_err-tracks_end.was (room_stop (1 + track_size * most_tracks) track_section_sound tracks_steady _ _ c.track_section.ensures c.in_err-tracks_end.was)

pub returns-in_err-zeros_to : goal.returns-in_err-zeros_to
unfolding rooms list_room signal_section
returns-in_err-zeros_to c =
    then_halt _ _ _ _ (search rules) c.in_err-zeros_to.was (room_told (1 + track_size * most_tracks) track_section_sound tracks_steady _ _ c.track_section.ensures refl c.in_ok-tracks_end.was c.zeros_to.ensures)

pub returns-in_err-signals_end : goal.returns-in_err-signals_end
unfolding rooms list_room signal_section
returns-in_err-signals_end c =
    let signals-place : c.in_ok-zeros_to.field-0 ≡ signals_at =
    room_next (1 + track_size * most_tracks) track_section_sound tracks_steady _ tracks_at c.track_section.ensures refl c.in_ok-tracks_end.was c.zeros_to.ensures track_section_sound.fits c.in_ok-zeros_to.was in
    then_step _ _ _ _ (room_told (1 + track_size * most_tracks) track_section_sound tracks_steady _ _ c.track_section.ensures refl c.in_ok-tracks_end.was c.zeros_to.ensures)
    (roomy_steady _ _ tracks_steady) c.in_ok-zeros_to.was λ tracks t. moved _ _ signals-place (
    then_halt _ _ _ _ (search rules) c.in_err-signals_end.was (room_stop (1 + most_signals) (rising_list_sound _ most_signals) (rising_steady _ _) _ _
    (told_as (λ n. rising_list n most_signals) _ _ (c.tracks.ensures ∙ ap length (tracks_known _ t)) c.rising_list.ensures) c.in_err-signals_end.was))

pub returns-in_err-zeros_to-2 : goal.returns-in_err-zeros_to-2
unfolding rooms list_room signal_section
returns-in_err-zeros_to-2 c =
    let signals-place : c.in_ok-zeros_to.field-0 ≡ signals_at =
    room_next (1 + track_size * most_tracks) track_section_sound tracks_steady _ tracks_at c.track_section.ensures refl c.in_ok-tracks_end.was c.zeros_to.ensures track_section_sound.fits c.in_ok-zeros_to.was in
    then_step _ _ _ _ (room_told (1 + track_size * most_tracks) track_section_sound tracks_steady _ _ c.track_section.ensures refl c.in_ok-tracks_end.was c.zeros_to.ensures)
    (roomy_steady _ _ tracks_steady) c.in_ok-zeros_to.was λ tracks t. moved _ _ signals-place (
    then_halt _ _ _ _ (search rules) c.in_err-zeros_to-2.was (room_told (1 + most_signals) (rising_list_sound _ most_signals) (rising_steady _ _) _ _
    (told_as (λ n. rising_list n most_signals) _ _ (c.tracks.ensures ∙ ap length (tracks_known _ t)) c.rising_list.ensures) refl c.in_ok-signals_end.was c.zeros_to-2.ensures))

pub returns-in_err-routes_end : goal.returns-in_err-routes_end
unfolding rooms list_room signal_section
returns-in_err-routes_end c =
    let image = c.args.image.now in
    let signals-place : c.in_ok-zeros_to.field-0 ≡ signals_at =
    room_next (1 + track_size * most_tracks) track_section_sound tracks_steady _ tracks_at c.track_section.ensures refl c.in_ok-tracks_end.was c.zeros_to.ensures track_section_sound.fits c.in_ok-zeros_to.was in
    let routes-place : c.in_ok-zeros_to-2.field-0 ≡ routes_at =
    room_next (1 + most_signals) (rising_list_sound _ most_signals) (rising_steady _ _) _ signals_at c.rising_list.ensures refl c.in_ok-signals_end.was c.zeros_to-2.ensures (rising_list_sound _ most_signals).fits c.in_ok-zeros_to-2.was in
    then_step _ _ _ _ (room_told (1 + track_size * most_tracks) track_section_sound tracks_steady _ _ c.track_section.ensures refl c.in_ok-tracks_end.was c.zeros_to.ensures)
    (roomy_steady _ _ tracks_steady) c.in_ok-zeros_to.was λ tracks t. moved _ _ signals-place (
    then_step _ _ _ _ (room_told (1 + most_signals) (rising_list_sound _ most_signals) (rising_steady _ _) _ _
    (told_as (λ n. rising_list n most_signals) _ _ (c.tracks.ensures ∙ ap length (tracks_known _ t)) c.rising_list.ensures) refl c.in_ok-signals_end.was c.zeros_to-2.ensures)
    (roomy_steady _ _ (rising_steady _ _)) c.in_ok-zeros_to-2.was λ signals s. moved _ _ routes-place (
    then_halt _ _ _ _ (search rules) c.in_err-routes_end.was (room_stop (1 + route_size * most_routes) (route_rooms_sound _ _) (route_rooms_steady _ _) _ _
    (told_as (λ s. route_rooms tracks (length s)) _ _ (signals_known _ t (ap (λ k. drop k image) signals-place) s)
    (told_as (λ t. route_rooms t (length (plan_of image).signals)) _ _ (tracks_known _ t) c.route_rooms.ensures)) c.in_err-routes_end.was)))

pub returns-in_err-zeros_to-3 : goal.returns-in_err-zeros_to-3
unfolding rooms list_room signal_section
returns-in_err-zeros_to-3 c =
    let image = c.args.image.now in
    let signals-place : c.in_ok-zeros_to.field-0 ≡ signals_at =
    room_next (1 + track_size * most_tracks) track_section_sound tracks_steady _ tracks_at c.track_section.ensures refl c.in_ok-tracks_end.was c.zeros_to.ensures track_section_sound.fits c.in_ok-zeros_to.was in
    let routes-place : c.in_ok-zeros_to-2.field-0 ≡ routes_at =
    room_next (1 + most_signals) (rising_list_sound _ most_signals) (rising_steady _ _) _ signals_at c.rising_list.ensures refl c.in_ok-signals_end.was c.zeros_to-2.ensures (rising_list_sound _ most_signals).fits c.in_ok-zeros_to-2.was in
    then_step _ _ _ _ (room_told (1 + track_size * most_tracks) track_section_sound tracks_steady _ _ c.track_section.ensures refl c.in_ok-tracks_end.was c.zeros_to.ensures)
    (roomy_steady _ _ tracks_steady) c.in_ok-zeros_to.was λ tracks t. moved _ _ signals-place (
    then_step _ _ _ _ (room_told (1 + most_signals) (rising_list_sound _ most_signals) (rising_steady _ _) _ _
    (told_as (λ n. rising_list n most_signals) _ _ (c.tracks.ensures ∙ ap length (tracks_known _ t)) c.rising_list.ensures) refl c.in_ok-signals_end.was c.zeros_to-2.ensures)
    (roomy_steady _ _ (rising_steady _ _)) c.in_ok-zeros_to-2.was λ signals s. moved _ _ routes-place (
    then_halt _ _ _ _ (search rules) c.in_err-zeros_to-3.was (room_told (1 + route_size * most_routes) (route_rooms_sound _ _) (route_rooms_steady _ _) _ _
    (told_as (λ s. route_rooms tracks (length s)) _ _ (signals_known _ t (ap (λ k. drop k image) signals-place) s)
    (told_as (λ t. route_rooms t (length (plan_of image).signals)) _ _ (tracks_known _ t) c.route_rooms.ensures)) refl c.in_ok-routes_end.was c.zeros_to-3.ensures)))

pub returns-in_err-entries_end : goal.returns-in_err-entries_end
unfolding rooms list_room signal_section
returns-in_err-entries_end c =
    let image = c.args.image.now in
    let signals-place : c.in_ok-zeros_to.field-0 ≡ signals_at =
    room_next (1 + track_size * most_tracks) track_section_sound tracks_steady _ tracks_at c.track_section.ensures refl c.in_ok-tracks_end.was c.zeros_to.ensures track_section_sound.fits c.in_ok-zeros_to.was in
    let routes-place : c.in_ok-zeros_to-2.field-0 ≡ routes_at =
    room_next (1 + most_signals) (rising_list_sound _ most_signals) (rising_steady _ _) _ signals_at c.rising_list.ensures refl c.in_ok-signals_end.was c.zeros_to-2.ensures (rising_list_sound _ most_signals).fits c.in_ok-zeros_to-2.was in
    let entries-place : c.in_ok-zeros_to-3.field-0 ≡ entries_at =
    room_next (1 + route_size * most_routes) (route_rooms_sound _ _) (route_rooms_steady _ _) _ routes_at c.route_rooms.ensures refl c.in_ok-routes_end.was c.zeros_to-3.ensures (routes_fit _ _) c.in_ok-zeros_to-3.was in
    then_step _ _ _ _ (room_told (1 + track_size * most_tracks) track_section_sound tracks_steady _ _ c.track_section.ensures refl c.in_ok-tracks_end.was c.zeros_to.ensures)
    (roomy_steady _ _ tracks_steady) c.in_ok-zeros_to.was λ tracks t. moved _ _ signals-place (
    then_step _ _ _ _ (room_told (1 + most_signals) (rising_list_sound _ most_signals) (rising_steady _ _) _ _
    (told_as (λ n. rising_list n most_signals) _ _ (c.tracks.ensures ∙ ap length (tracks_known _ t)) c.rising_list.ensures) refl c.in_ok-signals_end.was c.zeros_to-2.ensures)
    (roomy_steady _ _ (rising_steady _ _)) c.in_ok-zeros_to-2.was λ signals s. moved _ _ routes-place (
    then_step _ _ _ _ (room_told (1 + route_size * most_routes) (route_rooms_sound _ _) (route_rooms_steady _ _) _ _
    (told_as (λ s. route_rooms tracks (length s)) _ _ (signals_known _ t (ap (λ k. drop k image) signals-place) s)
    (told_as (λ t. route_rooms t (length (plan_of image).signals)) _ _ (tracks_known _ t) c.route_rooms.ensures)) refl c.in_ok-routes_end.was c.zeros_to-3.ensures)
    (roomy_steady _ _ (route_rooms_steady _ _)) c.in_ok-zeros_to-3.was λ routes r. moved _ _ entries-place (
    then_halt _ _ _ _ (search rules) c.in_err-entries_end.was (room_stop (1 + entry_size * most_entries) (entry_rooms_sound _) (entry_rooms_steady _) _ _
    (told_as (λ t. entry_rooms (length t)) _ _ (tracks_known _ t) c.entry_rooms.ensures) c.in_err-entries_end.was))))

pub returns : goal.returns
unfolding rooms list_room signal_section
returns c =
    let image = c.args.image.now in
    let signals-place : c.in_ok-zeros_to.field-0 ≡ signals_at =
    room_next (1 + track_size * most_tracks) track_section_sound tracks_steady _ tracks_at c.track_section.ensures refl c.in_ok-tracks_end.was c.zeros_to.ensures track_section_sound.fits c.in_ok-zeros_to.was in
    let routes-place : c.in_ok-zeros_to-2.field-0 ≡ routes_at =
    room_next (1 + most_signals) (rising_list_sound _ most_signals) (rising_steady _ _) _ signals_at c.rising_list.ensures refl c.in_ok-signals_end.was c.zeros_to-2.ensures (rising_list_sound _ most_signals).fits c.in_ok-zeros_to-2.was in
    let entries-place : c.in_ok-zeros_to-3.field-0 ≡ entries_at =
    room_next (1 + route_size * most_routes) (route_rooms_sound _ _) (route_rooms_steady _ _) _ routes_at c.route_rooms.ensures refl c.in_ok-routes_end.was c.zeros_to-3.ensures (routes_fit _ _) c.in_ok-zeros_to-3.was in
    then_step _ _ _ _ (room_told (1 + track_size * most_tracks) track_section_sound tracks_steady _ _ c.track_section.ensures refl c.in_ok-tracks_end.was c.zeros_to.ensures)
    (roomy_steady _ _ tracks_steady) c.in_ok-zeros_to.was λ tracks t. moved _ _ signals-place (
    then_step _ _ _ _ (room_told (1 + most_signals) (rising_list_sound _ most_signals) (rising_steady _ _) _ _
    (told_as (λ n. rising_list n most_signals) _ _ (c.tracks.ensures ∙ ap length (tracks_known _ t)) c.rising_list.ensures) refl c.in_ok-signals_end.was c.zeros_to-2.ensures)
    (roomy_steady _ _ (rising_steady _ _)) c.in_ok-zeros_to-2.was λ signals s. moved _ _ routes-place (
    then_step _ _ _ _ (room_told (1 + route_size * most_routes) (route_rooms_sound _ _) (route_rooms_steady _ _) _ _
    (told_as (λ s. route_rooms tracks (length s)) _ _ (signals_known _ t (ap (λ k. drop k image) signals-place) s)
    (told_as (λ t. route_rooms t (length (plan_of image).signals)) _ _ (tracks_known _ t) c.route_rooms.ensures)) refl c.in_ok-routes_end.was c.zeros_to-3.ensures)
    (roomy_steady _ _ (route_rooms_steady _ _)) c.in_ok-zeros_to-3.was λ routes r. moved _ _ entries-place (
    then_last _ _ _ _ (room_told (1 + entry_size * most_entries) (entry_rooms_sound _) (entry_rooms_steady _) _ _
    (told_as (λ t. entry_rooms (length t)) _ _ (tracks_known _ t) c.entry_rooms.ensures) refl c.in_ok-entries_end.was c.zeros_to-4.ensures))))
