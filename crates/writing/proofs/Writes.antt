-- Writing one thing after another, each where the one before it ended: what is left to write, and what a part of the memory that comes back leaves of it.
use mathlib.Core.Path.{◌≡◌, refl, sym, ap, ◌∙◌}
use mathlib.Core.List.{List, [], ◌∷◌, ◌++◌, append_assoc, append-nil}
use Prim.Native.Nat.{ℕ, ◌+◌, ◌-◌, ◌<◌, ◌≤◌}
use native.Mathlib.Omega.{arith}
use native.Mathlib.Nat.{zero-add}
use native.Mathlib.Numerals.{add-one}
use lib.ListN.{length, get_or, take, drop, set, length-append, length-set, drop_of_length-le}
use lib.Seq.{drop-cons}
use borrow.Rule.Slice.PartMut.{put_mid}
use Rattle.laws.specs.Written.{Wrote, wrote_long, wrote_then, wrote_byte, wrote_part}
use Rattle.laws.specs.Lists.{joined}
use Rattle.plan.specs.Records.{Plan}
use Rattle.plan.specs.File.{counted_file, entry_file, file_of, list_file, route_file, track_file}

-- the part of the memory that starts at an offset, and the memory once the part is back
abbrev pub part_from : ℕ → List ℕ → List ℕ
part_from n l = take (length l - n) (drop n l)

abbrev pub part_back : ℕ → List ℕ → List ℕ → List ℕ
part_back n l part = put_mid n (length l - n) l part

-- Of the files of some things, which are to stand one after another from an offset on, those before `rest` are written: they end at `at`. There is
-- room for all.
pub record Left {A : Type 0} (file : A → List ℕ) (all : List A) (before : List ℕ) (from : ℕ) (rest : List A) (now : List ℕ) (at : ℕ) : Type 0 where
  pub done : List ℕ
  pub both : done ++ joined file rest ≡ joined file all
  pub wrote : Wrote done before from now at
  pub room : from + length (joined file all) ≤ length before

module _ {A : Type 0} {file : A → List ℕ} {all : List A} {before : List ℕ} {from : ℕ} where
  left_start : from + length (joined file all) ≤ length before → Left file all before from all before from
  left_start h = record { done = []; both = refl; wrote = record { written = refl; ends = omega arith; within = omega arith }; room = h }

  -- what is left has room
  left_room : {rest : List A} {now : List ℕ} {at : ℕ} → Left file all before from rest now at → at + length (joined file rest) ≤ length now
  left_room {rest} w = omega (arith, wrote_long w.wrote, ap length w.both, length-append w.done (joined file rest), w.wrote.ends, w.room)

  pub left_within : {rest : List A} {now : List ℕ} {at : ℕ} → Left file all before from rest now at → at ≤ length now
  left_within w = omega (arith, left_room w)

  -- nothing is left
  pub left_none : {now : List ℕ} {at : ℕ} → Left file all before from [] now at → Wrote (joined file all) before from now at
  unfolding joined
  left_none w = rw (sym (append-nil w.done) ∙ w.both) at w.wrote

  -- The next thing: it has room where it is to stand, and once it stands there what is behind it is left. It may be written into the part of the memory that
  -- starts there, which comes back with its file at the front.
  module _ {a : A} {rest : List A} {now : List ℕ} {at : ℕ} (w : Left file all before from (a ∷ rest) now at) where
    pub left_fits : at + length (file a) ≤ length now
    unfolding joined
    left_fits = omega (arith, left_room w, length-append (file a) (joined file rest))

    pub left_next : {after : List ℕ} {next : ℕ} → Wrote (file a) now at after next → Left file all before from rest after next
    unfolding joined
    left_next p = record {
      done = w.done ++ file a;
      both = append_assoc w.done (file a) (joined file rest) ∙ w.both;
      wrote = wrote_then w.wrote p;
      room = w.room;
    }

    pub left_part : {bytes part : List ℕ} {r : ℕ} → bytes ≡ file a → Wrote bytes (part_from at now) 0 part r → Left file all before from rest (part_back at now part) (at + r)
    left_part e p = left_next (wrote_part (left_within w) (rw e at p))

  -- A loop over the things, at its place i: the thing there is the next, and past the end nothing is left.
  module _ (i : ℕ) {n : ℕ} {now : List ℕ} {at : ℕ} (w : Left file all before from (drop i all) now at) (count : n ≡ length all) where
    pub left_turn : (d : A) → i < n → Left file all before from (get_or all i d ∷ drop (i + 1) all) now at
    left_turn d h = rw add-one (rw (drop-cons all i d (omega arith)) at w)

    pub left_stop : n ≤ i → Wrote (joined file all) before from now at
    left_stop h = let past : length all ≤ i = omega arith in left_none (rw (drop_of_length-le all past) at w)

-- At the front of the memory: where it starts, and the first thing's part.
module _ {A : Type 0} {file : A → List ℕ} {all : List A} {before : List ℕ} where
  pub front_start : {whole : List ℕ} → joined file all ≡ whole → length whole ≤ length before → Left file all before 0 all before 0
  front_start made h = left_start (omega (arith, ap length made))

  pub front_part : {a : A} {rest : List A} {now bytes part : List ℕ} {r : ℕ} → Left file all before 0 (a ∷ rest) now 0 → bytes ≡ file a
      → Wrote bytes (part_from 0 now) 0 part r → Left file all before 0 rest (part_back 0 now part) r
  front_part {r = r} w e p = rw zero-add at (left_part w e p)

-- A byte at the front, and what stands behind it: where that starts, where it has got to, and all of it.
module _ (before : List ℕ) {a b : ℕ} (e : b ≡ a) where
  pub byte_start : {A : Type 0} {file : A → List ℕ} {all : List A} {whole : List ℕ} → a ∷ joined file all ≡ whole → length whole ≤ length before
      → Left file all (set before 0 b) 1 all (set before 0 b) 1
  byte_start made h = left_start (rw length-set (omega (arith, ap length made)))

  pub byte_end : {bytes now whole : List ℕ} {at : ℕ} → a ∷ bytes ≡ whole → Wrote bytes (set before 0 b) 1 now at → Wrote whole before 0 now at
  byte_end made w = rw (← made, ← e) (wrote_then (wrote_byte b before 0 (omega (arith, w.within, w.ends, length-set before 0 b))) w)

-- a byte, by what it is
pub byte_wrote : (before : List ℕ) (at : ℕ) {a b : ℕ} → b ≡ a → at < length before → Wrote (a ∷ []) before at (set before at b) (at + 1)
byte_wrote before at {a} {b} e h = rw (← e) (wrote_byte b before at h)

-- things after their count, as the plan has them
pub counted_is : {A : Type 0} (file : A → List ℕ) (l : List A) {n : ℕ} {bytes : List ℕ} → n ≡ length l → bytes ≡ joined file l → n ∷ bytes ≡ counted_file file l
unfolding counted_file
counted_is file l e f = rw (e, f)

-- The files that a plan's file is made of: each stands for itself.

abbrev pub itself : List ℕ → List ℕ
itself bytes = bytes

abbrev pub plan_parts : Plan → List (List ℕ)
plan_parts p = counted_file track_file p.tracks ∷ list_file p.signals ∷ counted_file route_file p.routes ∷ counted_file entry_file p.entries ∷ []

pub plan_parts_lem : (p : Plan) → joined itself (plan_parts p) ≡ file_of p
unfolding file_of joined
plan_parts_lem p = simp append-nil
