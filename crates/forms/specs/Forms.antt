-- The plan file byte by byte, with the order and the numbers of document 01, "The plan file", and its table of forms. Nothing here reads: the bytes
-- before an offset say what the rest of the file must be, and the first byte that is not right has a form. The numbers are the document's own, not
-- those of plan/specs/Limits.antt: proofs/Meaning.antt shows that `parse`, which goes by those, gives exactly these forms. The signs are explained at
-- the head of demands/specs/Demands.antt.
use Rattle.std.specs.Prelude.{◌≡◌, ◌≢◌, ◌⊎◌, List, [], ◌∷◌, ℕ, zero, suc, ◌<◌, ◌≤◌, length, get_or}

-- What a number stands for, and which numbers of it exist. Kinds, tracks and signals are counted from 0; a point is named by its track, which is of kind
-- 1 or 2; an unused byte is 0.

pub data Sort : Type 0 where
  kind : Sort
  track : (tracks : ℕ) → Sort
  signal : (signals : ℕ) → Sort
  -- given the kinds of all tracks
  point : (kinds : List ℕ) → Sort
  unused : Sort

abbrev pub Exists : Sort → ℕ → Type 0
Exists kind b = b ≤ 3
Exists (track tracks) b = b < tracks
Exists (signal signals) b = b < signals
Exists (point kinds) b = (b < length kinds) × ((get_or kinds b 0 ≡ 1) ⊎ (get_or kinds b 0 ≡ 2))
Exists unused b = b ≡ 0

-- In a list that rises strictly each number is above its forerunner. The first has none, nor has a number in another list.

pub data Forerunner : Type 0 where
  none : Forerunner
  after : ℕ → Forerunner

abbrev pub Above : Forerunner → ℕ → Type 0
Above none b = Unit
Above (after v) b = v < b

-- What the rest of a file must be: nothing; or a count from the least to the most; or a number of a sort, above its forerunner. Every count and number
-- is one byte, and its value says what must follow it.
pub data Rest : Type 0 where
  nothing : Rest
  count : (least most : ℕ) → (ℕ → Rest) → Rest
  number : Sort → Forerunner → (ℕ → Rest) → Rest

-- So many rows one after the other, and then the rest. A row is given its forerunner, and hands on the forerunner of the next.

abbrev pub Row : Type 0
Row = Forerunner → (Forerunner → Rest) → Rest

unfoldable pub rows : ℕ → Row → Forerunner → Rest → Rest
rows zero row before then = then
rows (suc n) row before then = row before λ own. rows n row own then

-- rows after their count, which may say what must follow them
unfoldable pub counted : ℕ → ℕ → Row → (ℕ → Rest) → Rest
counted least most row then = count least most λ n. rows n row none (then n)

-- a number of a list in any order is nobody's forerunner; in a list that rises strictly it is the next number's

unfoldable pub any_order : Sort → Row
any_order sort before then = number sort before λ v. then none

unfoldable pub rising : Sort → Row
rising sort before then = number sort before λ v. then (after v)

-- 1. Tracks, 1 to 64 (the counts of the four sections stand in `plan_file`). Four bytes each: kind and three numbers. What follows the rows is given all
-- kinds, which say where the points are. Which number is which way out or leg stands in Rows.antt.

-- what the three numbers are, by kind; a kind above 3 is not right, so that nothing is asked of what follows it
abbrev pub numbers_of : ℕ → ℕ → Sort × Sort × Sort
numbers_of tracks code =
    get_or (
    -- 0 plain: next, 0, 0
    (track tracks, unused, unused)
    -- 1 facing point: normal way out, reverse way out, 0
    ∷ (track tracks, track tracks, unused)
    -- 2 trailing point: next, normal leg, reverse leg
    ∷ (track tracks, track tracks, track tracks)
    -- 3 exit: 0, 0, 0
    ∷ (unused, unused, unused)
    ∷ []
    ) code (unused, unused, unused)

unfoldable pub track_row : ℕ → (ℕ → Rest) → Rest
track_row tracks then =
    number kind none λ code.
    number (numbers_of tracks code).0 none λ first.
    number (numbers_of tracks code).1 none λ second.
    number (numbers_of tracks code).2 none λ third.
    then code

-- how many tracks there are, how many of their rows are still due, and what follows, given the kinds of these
unfoldable pub track_rows : ℕ → ℕ → (List ℕ → Rest) → Rest
track_rows tracks zero then = then []
track_rows tracks (suc n) then = track_row tracks λ code. track_rows tracks n λ others. then (code ∷ others)

-- 2. Signals, 0 to 32. One byte: the home track, at whose end the signal stands. Homes rise strictly.

unfoldable pub signal_row : ℕ → Row
signal_row tracks = rising (track tracks)

-- 3. Routes, 0 to 48. The start signal, then five lists, each after its count: path (1 to 32 tracks in travel order), clear (0 to 64 tracks), normal points
-- (0 to 16), reverse points (0 to 16), releases (0 to 32 pairs: track, point). Clear, normal and reverse lists rise strictly; releases rise strictly
-- by point.

unfoldable pub release_row : ℕ → List ℕ → Row
release_row tracks kinds before then =
    number (track tracks) none λ on.
    number (point kinds) before λ released.
    then (after released)

unfoldable pub route_row : ℕ → List ℕ → ℕ → Row
route_row tracks kinds signals before then =
    number (signal signals) none λ start.
    counted 1 32 (any_order (track tracks)) λ path.
    counted 0 64 (rising (track tracks)) λ clear.
    counted 0 16 (rising (point kinds)) λ normal.
    counted 0 16 (rising (point kinds)) λ reverse.
    counted 0 32 (release_row tracks kinds) λ releases.
    then none

-- 4. Entries, 0 to 16. The track, then its clear list after its count (0 to 64, rising strictly). Entry tracks rise strictly.

unfoldable pub entry_row : ℕ → Row
entry_row tracks before then =
    number (track tracks) before λ on.
    counted 0 64 (rising (track tracks)) λ clear.
    then (after on)

-- The whole file: the sections in their fixed order, each after its count. Nothing follows.
unfoldable pub plan_file : Rest
plan_file =
    count 1 64 λ tracks.
    track_rows tracks tracks λ kinds.
    counted 0 32 (signal_row tracks) λ signals.
    counted 0 48 (route_row tracks kinds signals) λ routes.
    counted 0 16 (entry_row tracks) λ entries.
    nothing

-- What must follow a byte, and what the rest must be from an offset on, by the bytes before it.

abbrev pub following : Rest → ℕ → Rest
following nothing b = nothing
following (count least most then) b = then b
following (number sort before then) b = then b

unfoldable pub rest_at : Rest → List ℕ → ℕ → Rest
rest_at rest file zero = rest
rest_at rest [] (suc at) = rest
rest_at rest (b ∷ file) (suc at) = rest_at (following rest b) file at

-- a byte is right: a count within its limits, or a number that exists and is above its forerunner; where nothing is due, no byte is right
abbrev pub Right : Rest → ℕ → Type 0
Right nothing b = ⊥
Right (count least most then) b = (least ≤ b) × (b ≤ most)
Right (number sort before then) b = Exists sort b × Above before b

module _ (whole : Rest) (file : List ℕ) where
  abbrev pub due : ℕ → Rest
  due at = rest_at whole file at

  abbrev pub byte : ℕ → ℕ
  byte at = get_or file at 0

  -- every byte before an offset is right
  abbrev pub RightBefore : ℕ → Type 0
  RightBefore at = (i : ℕ) → i < at → Right (due i) (byte i)

  -- The table of forms: number and offset. Reading stops at the first bad byte in file order, so every byte before the offset is right. At one byte, a
  -- lower number comes first: 4 is of a number that exists.
  pub data Formed : ℕ → ℕ → Type 0 where
    -- 1, file ends early: the file has ended, and more is due
    ends_early : (at : ℕ) → RightBefore at → at ≡ length file → due at ≢ nothing → Formed 1 at
    -- 2, count beyond its limits; at the count
    bad_count : (at : ℕ) → RightBefore at → at < length file → {least most : ℕ} {then : ℕ → Rest} → due at ≡ count least most then →
        (byte at < least) ⊎ (most < byte at) → Formed 2 at
    -- 3, kind above 3, unused byte not 0, track or signal that doesn't exist, or a normal, reverse or release point that is not of kind 1 or 2; at that byte
    bad_number : (at : ℕ) → RightBefore at → at < length file → {sort : Sort} {before : Forerunner} {then : ℕ → Rest} → due at ≡ number sort before then →
        (Exists sort (byte at) → ⊥) → Formed 3 at
    -- 4, list doesn't rise strictly: the number exists, and is not above its forerunner
    not_rising : (at : ℕ) → RightBefore at → at < length file → {sort : Sort} {before : Forerunner} {then : ℕ → Rest} → due at ≡ number sort before then →
        Exists sort (byte at) → (Above before (byte at) → ⊥) → Formed 4 at
    -- 5, bytes left over: nothing more is due, and here is the first of them
    left_over : (at : ℕ) → RightBefore at → at < length file → due at ≡ nothing → Formed 5 at

  -- No form: every byte is right, and nothing more is due.
  pub record Complete : Type 0 where
    pub right : RightBefore (length file)
    pub end : due (length file) ≡ nothing
