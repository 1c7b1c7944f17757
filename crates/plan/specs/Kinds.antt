-- The kinds of track: their codes, and what a track is by its kind, as tests and as sentences of the same names. Nothing else looks at a kind.
-- `Track` is the code's own struct (src/lib.rt).
use Rattle.std.specs.Prelude.{ℕ, ◌≡◌, Bool, cond, ◌&&◌, ◌||◌, ◌⊎◌, List, get_or, eqb, ltb}
use Rattle.plan.specs.declared.Track.{Track}
use Rattle.plan.specs.declared.Kind.{Kind}
use Rattle.plan.specs.declared.Kind.TheVariants.{Plain as PlainKind, Facing as FacingKind, Trailing as TrailingKind, Exit as ExitKind}

-- The codes, and how many there are.

abbrev pub plain_kind : ℕ
plain_kind = 0

abbrev pub facing_kind : ℕ
facing_kind = 1

abbrev pub trailing_kind : ℕ
trailing_kind = 2

abbrev pub exit_kind : ℕ
exit_kind = 3

abbrev pub kinds : ℕ
kinds = 4

-- the code of a kind, as the code of the box names it
abbrev pub code_of : Kind → ℕ
code_of PlainKind = plain_kind
code_of FacingKind = facing_kind
code_of TrailingKind = trailing_kind
code_of ExitKind = exit_kind

-- how many of its three numbers a kind uses: a plain track its next; a facing point its normal and its reverse way out; a trailing point its next
-- and its normal and its reverse leg; an exit none
unfoldable pub uses : ℕ → ℕ
uses kind = cond (eqb kind plain_kind) 1 (cond (eqb kind facing_kind) 2 (cond (eqb kind trailing_kind) 3 0))

-- the i-th number names a track where the kind uses it, and else is 0
unfoldable pub limit_of : ℕ → ℕ → ℕ → ℕ
limit_of tracks kind i = cond (ltb i (uses kind)) tracks 1

-- a track is of a kind
abbrev pub of_kind : Track → Kind → Bool
of_kind t kind = eqb t.kind (code_of kind)

-- What a track is. A lie is normal (false) or reverse (true).
module _ (t : Track) where
  unfoldable pub plain : Bool
  plain = eqb t.kind plain_kind

  abbrev pub Plain : Type 0
  Plain = t.kind ≡ plain_kind

  unfoldable pub exit : Bool
  exit = eqb t.kind exit_kind

  abbrev pub Exit : Type 0
  Exit = t.kind ≡ exit_kind

  -- a facing point is left by its lie
  unfoldable pub forks : Bool
  forks = eqb t.kind facing_kind

  abbrev pub Forks : Type 0
  Forks = t.kind ≡ facing_kind

  -- a trailing point is entered by its lie
  unfoldable pub legged : Bool
  legged = eqb t.kind trailing_kind

  abbrev pub Legged : Type 0
  Legged = t.kind ≡ trailing_kind

  -- a point has a lie
  unfoldable pub point : Bool
  point = forks || legged

  abbrev pub Point : Type 0
  Point = Forks ⊎ Legged

  -- the way out for a lie
  unfoldable pub out : Bool → ℕ
  out lie = cond (forks && lie) t.second t.first

  -- the leg for a lie
  unfoldable pub leg : Bool → ℕ
  leg lie = cond lie t.third t.second

-- what stands for a track that doesn't exist: an exit
abbrev pub no_track : Track
no_track = record { kind = exit_kind; first = 0; second = 0; third = 0 }

-- a number names a point
unfoldable pub is_point : List Track → ℕ → Bool
is_point tracks v = point (get_or tracks v no_track)
