-- Events from bytes: what the code's tests say of three bytes, and how a row of bytes is cut.
use mathlib.Core.Path.{◌≡◌, refl, sym, ◌∙◌}
use mathlib.Core.Logic.{inl, inr}
use mathlib.Core.List.{List, [], ◌∷◌}
use Prim.Native.Nat.{ℕ, ◌+◌, ◌-◌, ◌<◌, ◌≤◌}
use native.Mathlib.Nat.{add-zero}
use native.Mathlib.Omega.{arith}
use lib.ListN.{length, get_or, drop, length-drop}
use lib.Seq.{get_or-drop}
use denote.Bor.{Bor}
use Rattle.std.specs.declared.option.Option.{Option}
use Rattle.std.specs.declared.option.Option.TheVariants.{None, Some}
use Rattle.std.specs.Option.{unwrap_or}
use Rattle.std.specs.Slice.{IsGetRangeResult}
use Rattle.std.proofs.Common.{take_all, drop_of_length-le}
use Rattle.events.specs.declared.Event.TheVariants.{Unknown}
use Rattle.events.specs.Events.{event_of, first_event, events_of}

pub event_few : (l : List ℕ) → length l < 3 → Unknown ≡ first_event l
unfolding first_event
event_few [] h = refl
event_few (a ∷ []) h = refl
event_few (a ∷ (b ∷ [])) h = refl
event_few (a ∷ (b ∷ (c ∷ l))) h = absurd (omega arith)

pub event_three : (l : List ℕ) → 3 ≤ length l → event_of (get_or l 0 0) (get_or l 1 0) (get_or l 2 0) ≡ first_event l
unfolding first_event
event_three [] h = absurd (omega arith)
event_three (a ∷ []) h = absurd (omega arith)
event_three (a ∷ (b ∷ [])) h = absurd (omega arith)
event_three (a ∷ (b ∷ (c ∷ l))) h = refl

-- fewer than three bytes from an offset on
pub event_short : (l : List ℕ) (at : ℕ) → length l < at + 3 → Unknown ≡ first_event (drop at l)
event_short l at h = event_few (drop at l) (rw (length-drop at l) (omega arith))

-- three bytes from an offset on
pub event_whole : (l : List ℕ) (at : ℕ) → at + 2 < length l → event_of (get_or l at 0) (get_or l (at + 1) 0) (get_or l (at + 2) 0) ≡ first_event (drop at l)
event_whole l at h =
    sym (rw (get_or-drop at l 0 0, get_or-drop at l 1 0, get_or-drop at l 2 0, add-zero at) refl) ∙ event_three (drop at l) (rw (length-drop at l) (omega arith))

-- what the code takes from an offset on, nothing where the bytes are over
pub rest_from : (l : List ℕ) (at : ℕ) (got : Option (Bor (List ℕ))) (none : Bor (List ℕ)) → IsGetRangeResult l at (length l) got → none.now ≡ []
    → (unwrap_or got none).now ≡ drop at l
rest_from l at (Some rest) none told e = told.0.2 ∙ take_all (length l - at) (drop at l) (omega (arith, length-drop at l))
rest_from l at None none told e = e ∙ sym (drop_of_length-le l (elim told.0 [ inl h ↦ omega (arith, h) | inr h ↦ omega (arith, h) ]))

-- The row of events is the first one, and those of the bytes after its three.
pub events_step : (l : List ℕ) → 0 < length l → events_of l ≡ first_event l ∷ events_of (drop 3 l)
unfolding first_event events_of
events_step [] h = absurd (omega arith)
events_step (a ∷ []) h = refl
events_step (a ∷ (b ∷ [])) h = refl
events_step (a ∷ (b ∷ (c ∷ l))) h = refl
