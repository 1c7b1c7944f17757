-- Reading a plan file: what each section gives, in the document's order, or the form of the first bad byte.
use Rattle.std.specs.Prelude.{ℕ, zero, suc, ◌+◌, Bool, cond, List, [], ◌∷◌, length, drop, ltb, Err, Ok, Result}
use Rattle.plan.specs.declared.Track.{Track}
use Rattle.plan.specs.declared.Release.{Release}
use Rattle.plan.specs.Limits.{least_tracks, most_tracks, most_signals, most_routes, most_entries, least_path, most_path, most_clear, most_points, most_releases}
use Rattle.plan.specs.Kinds.{kinds, is_point, limit_of}
use Rattle.plan.specs.Records.{Route, Entry, Plan}
use Rattle.reading.specs.declared.Form.{Form}
use Rattle.reading.specs.declared.Form.TheVariants.{EndsEarly, BadCount, BadNumber, NotRising, LeftOver}

-- The table of forms: number and offset.

abbrev pub form_number : Form → ℕ
form_number (EndsEarly at) = 1
form_number (BadCount at) = 2
form_number (BadNumber at) = 3
form_number (NotRising at) = 4
form_number (LeftOver at) = 5

abbrev pub form_offset : Form → ℕ
form_offset (EndsEarly at) = at
form_offset (BadCount at) = at
form_offset (BadNumber at) = at
form_offset (NotRising at) = at
form_offset (LeftOver at) = at

-- What reading gives: a form, or a value with the offset and the bytes that follow it.
pub data Got (A : Type 0) : Type 0 where
  form : Form → Got A
  got : A → ℕ → List ℕ → Got A

-- A reader is given the offset where it stands and the bytes from there on.
abbrev pub Reader : Type 0 → Type 0
Reader A = ℕ → List ℕ → Got A

abbrev pub follow : {A B : Type 0} → Got A → (A → Reader B) → Got B
follow (form f) k = form f
follow (got a at rest) k = k a at rest

unfoldable pub and_then : {A B : Type 0} → Reader A → (A → Reader B) → Reader B
and_then reader k at bytes = follow (reader at bytes) k

unfoldable pub done : {A : Type 0} → A → Reader A
done a at bytes = got a at bytes

-- One number, one count, things one after the other.

-- a number that fits and is not below the least one allowed
unfoldable pub number : (ℕ → Bool) → ℕ → Reader ℕ
number fits least at [] = form (EndsEarly at)
number fits least at (b ∷ rest) = cond (fits b) (cond (ltb b least) (form (NotRising at)) (got b (at + 1) rest)) (form (BadNumber at))

unfoldable pub count : ℕ → ℕ → Reader ℕ
count least most at [] = form (EndsEarly at)
count least most at (b ∷ rest) = cond (ltb b least) (form (BadCount at)) (cond (ltb most b) (form (BadCount at)) (got b (at + 1) rest))

-- k things, each with the least number that the one before it allows
unfoldable pub many : {A : Type 0} → (ℕ → Reader A) → (A → ℕ) → ℕ → ℕ → Reader (List A)
many one next zero least = done []
many one next (suc k) least = and_then (one least) λ a. and_then (many one next k (next a)) λ l. done (a ∷ l)

unfoldable pub counted : {A : Type 0} → ℕ → ℕ → (ℕ → Reader A) → (A → ℕ) → Reader (List A)
counted least most one next = and_then (count least most) λ k. many one next k 0

-- Lists of numbers. A list that rises asks each number to be above its forerunner.

abbrev pub below : ℕ → ℕ → Bool
below limit v = ltb v limit

abbrev pub free : {A : Type 0} → A → ℕ
free a = 0

abbrev pub above : ℕ → ℕ
above v = v + 1

unfoldable pub path_list : ℕ → Reader (List ℕ)
path_list tracks = counted least_path most_path (number (below tracks)) free

unfoldable pub rising_list : ℕ → ℕ → Reader (List ℕ)
rising_list tracks most = counted 0 most (number (below tracks)) above

unfoldable pub point_list : List Track → Reader (List ℕ)
point_list tracks = counted 0 most_points (number (is_point tracks)) above

-- 1. Tracks.

unfoldable pub track : ℕ → Reader Track
track tracks =
    and_then (number (below kinds) 0) λ kind.
    and_then (number (below (limit_of tracks kind 0)) 0) λ first.
    and_then (number (below (limit_of tracks kind 1)) 0) λ second.
    and_then (number (below (limit_of tracks kind 2)) 0) λ third.
    done (record { kind = kind; first = first; second = second; third = third })

unfoldable pub track_section : Reader (List Track)
track_section = and_then (count least_tracks most_tracks) λ k. many (λ least. track k) free k 0

-- 2. Signals: their homes, which rise strictly.

unfoldable pub signal_section : List Track → Reader (List ℕ)
signal_section tracks = rising_list (length tracks) most_signals

-- 3. Routes. Releases rise strictly by point.

unfoldable pub release : List Track → ℕ → Reader Release
release tracks least =
    and_then (number (below (length tracks)) 0) λ from.
    and_then (number (is_point tracks) least) λ point.
    done (record { track = from; point = point })

abbrev pub after_release : Release → ℕ
after_release r = above r.point

unfoldable pub release_list : List Track → Reader (List Release)
release_list tracks = counted 0 most_releases (release tracks) after_release

unfoldable pub route : List Track → ℕ → Reader Route
route tracks signals =
    and_then (number (below signals) 0) λ start.
    and_then (path_list (length tracks)) λ path.
    and_then (rising_list (length tracks) most_clear) λ clear.
    and_then (point_list tracks) λ normal.
    and_then (point_list tracks) λ reverse.
    and_then (release_list tracks) λ releases.
    done (record { start = start; path = path; clear = clear; normal = normal; reverse = reverse; releases = releases })

unfoldable pub route_section : List Track → ℕ → Reader (List Route)
route_section tracks signals = counted 0 most_routes (λ least. route tracks signals) free

-- 4. Entries. Their tracks rise strictly.

unfoldable pub entry : ℕ → ℕ → Reader Entry
entry tracks least =
    and_then (number (below tracks) least) λ on.
    and_then (rising_list tracks most_clear) λ clear.
    done (record { track = on; clear = clear })

abbrev pub after_entry : Entry → ℕ
after_entry e = above e.track

unfoldable pub entry_section : ℕ → Reader (List Entry)
entry_section tracks = counted 0 most_entries (entry tracks) after_entry

-- The whole file. Nothing follows the entries.

unfoldable pub sections : Reader Plan
sections =
    and_then track_section λ tracks.
    and_then (signal_section tracks) λ signals.
    and_then (route_section tracks (length signals)) λ routes.
    and_then (entry_section (length tracks)) λ entries.
    done (record { tracks = tracks; signals = signals; routes = routes; entries = entries })

abbrev pub nothing_left : {A : Type 0} → Got A → Got A
nothing_left (form f) = form f
nothing_left (got a at []) = got a at []
nothing_left (got a at (b ∷ rest)) = form (LeftOver at)

unfoldable pub parse : List ℕ → Got Plan
parse file = nothing_left (sections 0 file)

-- The code's answer for what is read: the next offset, or the form; and for a reader that stands at an offset of a file.

abbrev pub seen : {A : Type 0} → Got A → Result ℕ Form
seen (form f) = Err f
seen (got a at rest) = Ok at

unfoldable pub scanned : {A : Type 0} → Reader A → List ℕ → ℕ → Result ℕ Form
scanned reader file at = seen (reader at (drop at file))
