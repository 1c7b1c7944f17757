-- The answer of writing in the steps that the code takes, and what the lent memory then holds. Assumes nothing.
use Rattle.std.specs.Prelude.{Bool, Err, Ok, Result}
use mathlib.Core.Path.{subst, ◌≡◌, refl, sym, ◌∙◌}
use mathlib.Core.Logic.{◌⊎◌, inl, inr}
use mathlib.Core.Bool.{true, false}
use mathlib.Core.List.{List}
use Prim.Native.Nat.{ℕ, ◌<◌, ◌≤◌}
use native.Mathlib.Omega.{arith}
use lib.ListN.{length, length-append, length-drop}
use borrow.Author.Tests.{lt-ltb, le-ltb}
use Rattle.laws.specs.Tests.{Is, split, below?, never}
use Rattle.laws.specs.Written.{Wrote, front_sets}
use Rattle.plan.specs.File.{file_of}
use Rattle.plan.specs.Image.{plan_of}
use Rattle.images.specs.Images.{standing}
use Rattle.writing.specs.declared.Unwritten.{Unwritten}
use Rattle.writing.specs.declared.Unwritten.TheVariants.{NoFile, NoRoom}
use Rattle.writing.specs.Writing.{file_in, written, after_writing}

-- what stands nowhere is refused as that, whatever the room
pub no_file_lem : (image : List ℕ) (room : ℕ) {stands : Bool} → stands ≡ standing image → stands ≡ false → Err NoFile ≡ written image room
unfolding written
no_file_lem image room e t = rw (← e, t)

-- The three answers, each with what it tells.
pub data Outcome (image : List ℕ) (room : ℕ) : Result ℕ Unwritten → Type 0 where
  unread : standing image ≡ false → Outcome image room (Err NoFile)
  short : Is (standing image) → room < length (file_in image) → Outcome image room (Err NoRoom)
  full : Is (standing image) → length (file_in image) ≤ room → Outcome image room (Ok (length (file_in image)))

pub outcome : (image : List ℕ) (room : ℕ) → Outcome image room (written image room)
unfolding written
outcome image room = go (split (standing image)) (below? room (length (file_in image)))
  where
    go : (standing image ≡ true) ⊎ (standing image ≡ false) → (room < length (file_in image)) ⊎ (length (file_in image) ≤ room) → Outcome image room (written image room)
    go (inr n) s = subst (λ w. Outcome image room w) (no_file_lem image room refl n) (unread n)
    go (inl y) (inl h) = rw (y, lt-ltb room _ h) (short y h)
    go (inl y) (inr h) = rw (y, le-ltb room _ h) (full y h)

-- Where the answer is the whole file, there is room for it.
pub has_room : (image : List ℕ) (room : ℕ) {answer : Result ℕ Unwritten} {size : ℕ} → answer ≡ written image room → answer ≡ Ok size → length (file_of (plan_of image)) ≤ room
unfolding file_in
has_room image room {answer} {size} e w = go (outcome image room) (sym e ∙ w)
  where
    go : {x : Result ℕ Unwritten} → Outcome image room x → x ≡ Ok size → length (file_of (plan_of image)) ≤ room
    go (unread n) z = never (cc)
    go (short y h) z = never (cc)
    go (full y h) z = h

-- What the memory holds.
module _ (image out : List ℕ) {answer : Result ℕ Unwritten} (e : answer ≡ written image (length out)) where
  pub left_alone : {why : Unwritten} → answer ≡ Err why → out ≡ after_writing image (written image (length out)) out
  unfolding after_writing
  left_alone w = rw (← e, w)

  pub left_written : {size next : ℕ} {after : List ℕ} → answer ≡ Ok size → Wrote (file_of (plan_of image)) out 0 after next → after ≡ after_writing image (written image (length out)) out
  unfolding after_writing file_in
  left_written w s = rw (← e, w) (s.written ∙ front_sets out (file_of (plan_of image)) (has_room image (length out) e w))

-- The memory stays as long as it was.
pub after_long : (image out : List ℕ) → length (after_writing image (written image (length out)) out) ≡ length out
unfolding after_writing
after_long image out = go (outcome image (length out))
  where
    go : {w : Result ℕ Unwritten} → Outcome image (length out) w → length (after_writing image w out) ≡ length out
    go (unread n) = refl
    go (short y h) = refl
    go (full y h) = simp (length-append, length-drop) (omega arith)
