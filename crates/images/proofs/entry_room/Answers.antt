-- `images::entry_room`: the step of the track, then the clear list and its zeros.
use mathlib.Core.Path.{refl}
use Prim.Native.Nat.{◌+◌}
use native.Mathlib.Omega.{arith}
use Rattle.std.proofs.Common.{rules}
use Rattle.plan.specs.Limits.{most_clear}
use Rattle.reading.specs.Reading.{rising_list}
use Rattle.reading.proofs.Scanned.{listed_stop, listed_refused, listed_passed, step_passed, number_passed, number_steady, rising_steady}
use Rattle.reading.proofs.Chains.{told_as}
use Rattle.reading.proofs.Sections.{rising_list_sound}
use Rattle.images.specs.Images.{entry_room, list_room}
use Rattle.images.proofs.Rooms.{room_stop, room_told}
use Rattle.images.proofs.entry_room.Goals as goal

pub returns-in_err-clear_from : goal.returns-in_err-clear_from
unfolding entry_room
returns-in_err-clear_from c =
    listed_stop _ _ _ _ _ (rw c.tracks-tracks.ensures at c.number_step.ensures) (search rules) c.in_err-clear_from.was

pub returns-in_err-clear_end : goal.returns-in_err-clear_end
unfolding entry_room list_room
returns-in_err-clear_end c =
    let told = told_as (λ n. rising_list n most_clear) _ _ c.tracks-tracks.ensures c.rising_list.ensures in
    listed_refused _ _ _ _ _ (rw c.tracks-tracks.ensures at c.number_step.ensures) c.in_ok-clear_from.was
    (room_stop (1 + most_clear) (rising_list_sound _ most_clear) (rising_steady _ _) _ _ told c.in_err-clear_end.was) (search rules) c.in_err-clear_end.was

pub overflow_add-at : goal.overflow_add-at
overflow_add-at c =
    let b = number_passed _ _ _ _ (step_passed _ _ _ _ _ c.number_step.ensures (number_steady _ _) c.in_ok-clear_from.was) refl in
    omega (arith, b.within)

pub returns-in_err-end : goal.returns-in_err-end
unfolding entry_room list_room
returns-in_err-end c =
    let b = number_passed _ _ _ _ (step_passed _ _ _ _ _ c.number_step.ensures (number_steady _ _) c.in_ok-clear_from.was) refl in
    let told = told_as (λ n. rising_list n most_clear) _ _ c.tracks-tracks.ensures c.rising_list.ensures in
    listed_refused _ _ _ _ _ (rw c.tracks-tracks.ensures at c.number_step.ensures) c.in_ok-clear_from.was
    (room_told (1 + most_clear) (rising_list_sound _ most_clear) (rising_steady _ _) _ _ told (omega (arith, b.next)) c.in_ok-clear_end.was c.zeros_to.ensures) (search rules) c.in_err-end.was

pub returns : goal.returns
unfolding entry_room list_room
returns c =
    let b = number_passed _ _ _ _ (step_passed _ _ _ _ _ c.number_step.ensures (number_steady _ _) c.in_ok-clear_from.was) refl in
    let told = told_as (λ n. rising_list n most_clear) _ _ c.tracks-tracks.ensures c.rising_list.ensures in
    listed_passed _ _ _ _ _ (rw c.tracks-tracks.ensures at c.number_step.ensures) c.in_ok-clear_from.was
    (room_told (1 + most_clear) (rising_list_sound _ most_clear) (rising_steady _ _) _ _ told (omega (arith, b.next)) c.in_ok-clear_end.was c.zeros_to.ensures) c.in_ok-end.was
