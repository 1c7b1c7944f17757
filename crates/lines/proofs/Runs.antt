-- Written numbers: their digits, and the room that is left after a word and a number.
use mathlib.Core.Path.{◌≡◌, ◌∙◌}
use mathlib.Core.List.{List, ◌∷◌, ◌++◌}
use Prim.Native.Nat.{ℕ, ◌+◌, ◌/◌, ◌%◌, ◌<◌, ◌≤◌}
use native.Mathlib.Nat.{le_refl}
use native.Mathlib.Omega.{arith}
use lib.ListN.{length, get_or, drop, set, length-append}
use Rattle.std.proofs.Common.{add-one, drop-cons, drop_of_length-le}
use denote.Bor.{Bor}
use Rattle.laws.specs.Written.{Wrote, wrote_long, wrote_then, wrote_byte}
use Rattle.lines.specs.Decimal.{digit, decimal, number_most}
use Rattle.lines.specs.Lines.{end, parts_line, parts_most}
use Rattle.lines.proofs.Digits.{decimal_small, decimal_two, decimal_most}

-- A number of one digit, and of two.

pub wrote_digit : (n : ℕ) (before : List ℕ) (at : ℕ) → n < 10 → at + number_most ≤ length before
    → Wrote (decimal n) before at (set before at (digit n)) (at + 1)
wrote_digit n before at h room = rw (decimal_small n h) (wrote_byte (digit n) before at (omega arith))

pub wrote_two : (n : ℕ) (before : List ℕ) (at : ℕ) → 10 ≤ n → n < 100 → at + number_most ≤ length before
    → Wrote (decimal n) before at (set (set before at (digit (n / 10))) (at + 1) (digit (n % 10))) (at + 2)
wrote_two n before at h few room =
    let first = wrote_byte (digit (n / 10)) before at (omega arith) in
    let long = wrote_long first in
    let second = wrote_byte (digit (n % 10)) (set before at (digit (n / 10))) (at + 1) (omega arith) in
    let two : at + 1 + 1 ≡ at + 2 = omega arith in
    rw (decimal_two n h few, ← two) (wrote_then first second)

-- what is left of the memory after a word and a number
pub room_after : (word : List ℕ) (n most : ℕ) {total : ℕ} {before between : List ℕ} {at next : ℕ} → length word + number_most + most ≤ total
    → Wrote (word ++ decimal n) before at between next → at + total ≤ length before → next + most ≤ length between
room_after word n most {total} {before} {between} {at} {next} h w room =
    let m = decimal_most n in
    let e = length-append word (decimal n) in
    let k = wrote_long w in
    omega (arith, w.ends)

-- A line, from its part i on: what is left to write gives the whole, and has room.
pub record Lining (parts : List (Bor (List ℕ) × ℕ)) (before : List ℕ) (at : ℕ) (now : List ℕ) (i next : ℕ) : Type 0 where
  pub rest : (after : List ℕ) (ends : ℕ) → Wrote (parts_line (drop i parts)) now next after ends → Wrote (parts_line parts) before at after ends
  pub room : next + parts_most (drop i parts) ≤ length now
  pub long : length now ≡ length before

module _ {parts : List (Bor (List ℕ) × ℕ)} {before : List ℕ} {at : ℕ} {now : List ℕ} {i next : ℕ} (s : Lining parts before at now i next) where
  module _ (none : Bor (List ℕ) × ℕ) (h : i < length parts) where
    abbrev part : Bor (List ℕ) × ℕ
    part = get_or parts i none

    parted : drop i parts ≡ part ∷ drop (i + 1) parts
    parted = rw add-one (drop-cons parts i none h)

    room_left : next + (length part.0.now + number_most + parts_most (drop (i + 1) parts)) ≤ length now
    unfolding parts_most
    room_left = let r = rw parted at s.room in r

    pub part_room : next + (length part.0.now + number_most) ≤ length now
    part_room = omega (arith, room_left)

    pub lining_turn : {after : List ℕ} {further : ℕ} → Wrote (part.0.now ++ decimal part.1) now next after further → Lining parts before at after (i + 1) further
    unfolding parts_line
    lining_turn w = record {
      rest = λ last ends v. s.rest last ends (rw parted (wrote_then w v));
      room = room_after part.0.now part.1 (parts_most (drop (i + 1) parts)) (le_refl _) w room_left;
      long = wrote_long w ∙ s.long;
    }

  module _ (h : length parts ≤ i) where
    pub end_room : next < length now
    unfolding parts_most
    end_room = let r = rw (drop_of_length-le parts h) at s.room in omega (arith, r)

    pub lining_end : {after : List ℕ} {ends : ℕ} → Wrote end now next after ends → Wrote (parts_line parts) before at after ends
    unfolding parts_line
    lining_end w = s.rest _ _ (rw (drop_of_length-le parts h) w)
