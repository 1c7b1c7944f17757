-- Events from bytes, three to each: document 01, "The bench plan, byte by byte". `Event` is the code's own enum (src/lib.rt).
use Rattle.std.specs.Prelude.{cond, List, [], ◌∷◌, ℕ, length, get_or, take, eqb}
use Rattle.events.specs.declared.Event.{Event}
use Rattle.events.specs.declared.Event.TheVariants.{Request, Cancel, Enter, Move, Unknown}

-- 1 request (route, 0), 2 cancel (route, 0), 3 enter (entry, train), 4 move (train, 0)
unfoldable pub event_of : ℕ → ℕ → ℕ → Event
event_of kind first second =
    cond (eqb kind 3) (Enter first second)
    (cond (eqb second 0)
    (cond (eqb kind 1) (Request first) (cond (eqb kind 2) (Cancel first) (cond (eqb kind 4) (Move first) Unknown)))
    Unknown)

-- the event that bytes begin with: one or two bytes are an incomplete event
unfoldable pub first_event : List ℕ → Event
first_event [] = Unknown
first_event (a ∷ []) = Unknown
first_event (a ∷ (b ∷ [])) = Unknown
first_event (a ∷ (b ∷ (c ∷ rest))) = event_of a b c

unfoldable pub events_of : List ℕ → List Event
events_of [] = []
events_of (a ∷ []) = Unknown ∷ []
events_of (a ∷ (b ∷ [])) = Unknown ∷ []
events_of (a ∷ (b ∷ (c ∷ rest))) = event_of a b c ∷ events_of rest

-- The whole events that bytes begin with, and what is left over after the last of them: no byte, one or two. All events are the whole ones and the
-- one that is left over incomplete (proofs/Pieces.antt, events_apart).

unfoldable pub whole_events : List ℕ → List Event
whole_events [] = []
whole_events (a ∷ []) = []
whole_events (a ∷ (b ∷ [])) = []
whole_events (a ∷ (b ∷ (c ∷ rest))) = event_of a b c ∷ whole_events rest

unfoldable pub left_over : List ℕ → List ℕ
left_over [] = []
left_over (a ∷ []) = a ∷ []
left_over (a ∷ (b ∷ [])) = a ∷ (b ∷ [])
left_over (a ∷ (b ∷ (c ∷ rest))) = left_over rest

-- An unfinished event as the code is lent it, in three cells: how many of its bytes are there, and these.

unfoldable pub unfinished_in : List ℕ → List ℕ
unfinished_in cells = take (get_or cells 0 0) (get_or cells 1 0 ∷ (get_or cells 2 0 ∷ []))

-- as the code leaves it: 0 past the bytes that are there
unfoldable pub unfinished_cells : List ℕ → List ℕ
unfinished_cells bytes = length bytes ∷ (get_or bytes 0 0 ∷ (get_or bytes 1 0 ∷ []))
