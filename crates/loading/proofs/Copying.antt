-- The loops that store, turn by turn: what is left to copy from here on makes the whole copy. Assumes nothing.
use mathlib.Core.Path.{◌≡◌, refl}
use mathlib.Core.List.{List}
use Prim.Native.Nat.{ℕ, zero, suc, ◌+◌, ◌*◌, ◌-◌, ◌<◌, ◌≤◌}
use native.Mathlib.Nat.{add-zero, sub-zero, add-suc, mul-suc}
use native.Mathlib.Numerals.{add-one}
use native.Mathlib.Omega.{arith}
use lib.ListN.{length, get_or, take, drop, set}
use lib.Seq.{sets, drop-cons}
use Rattle.plan.specs.Limits.{path_at, clear_at, normal_at, reverse_at, releases_at, release_size}
use Rattle.loading.specs.Storing.{list_end, copy_list, clear_from, normal_from, reverse_from, releases_from, copy_route, Part, copy_many, ListRoom, ManyRoom, StepsRoom, IsCopy, copied}
use Rattle.std.specs.Borrow.{MutBor}

-- The bytes of a list with its count: the first i of them are copied.
pub record BytesLeft (size : ℕ) (file : List ℕ) (at to bytes : ℕ) (whole : List ℕ) (i : ℕ) (image : List ℕ) : Type 0 where
  pub within : i ≤ bytes
  pub all : bytes ≡ 1 + size * get_or file at 0
  pub rest : sets image (to + i) (take (bytes - i) (drop (at + i) file)) ≡ whole

module _ {size : ℕ} {file : List ℕ} {at to bytes : ℕ} {whole : List ℕ} {i : ℕ} {image : List ℕ} where
  pub bytes_turn : BytesLeft size file at to bytes whole i image → ListRoom size file at to → i < bytes → BytesLeft size file at to bytes whole (i + 1) (set image (to + i) (get_or file (at + i) 0))
  bytes_turn l room h =
      let left : bytes - i ≡ suc (bytes - suc i) = omega arith in
      let here : at + i < length file = omega arith in
      record {
        within = omega arith;
        all = l.all;
        rest = rw (add-one i, add-suc at i, add-suc to i) (rw (left, drop-cons file (at + i) 0 here) at l.rest);
      }

  pub bytes_stop : BytesLeft size file at to bytes whole i image → bytes ≤ i → image ≡ whole
  bytes_stop l h = let none : bytes - i ≡ 0 = omega arith in rw none at l.rest

module _ (size : ℕ) (file : List ℕ) (at : ℕ) {count : ℕ} (e : count ≡ get_or file at 0) where
  pub bytes_start : (to : ℕ) (image : List ℕ) → BytesLeft size file at to (1 + size * count) (copy_list size file at to image) 0 image
  unfolding copy_list
  bytes_start to image = record { within = omega arith; all = rw e; rest = simp (add-zero, sub-zero, e) }

  pub bytes_end : at + (1 + size * count) ≡ list_end size file at
  unfolding list_end
  bytes_end = rw e (omega arith)

-- A route's lists, each copied from where the one before it ends, make the route's copy.
pub route_lists_copied : (file : List ℕ) (at to : ℕ) (image : List ℕ) {clear normal reverse releases : ℕ} {m₁ m₂ m₃ m₄ m₅ : List ℕ}
    → clear ≡ clear_from file at → normal ≡ normal_from file at → reverse ≡ reverse_from file at → releases ≡ releases_from file at
    → m₁ ≡ copy_list 1 file (at + 1) (to + path_at) (set image to (get_or file at 0)) → m₂ ≡ copy_list 1 file clear (to + clear_at) m₁
    → m₃ ≡ copy_list 1 file normal (to + normal_at) m₂ → m₄ ≡ copy_list 1 file reverse (to + reverse_at) m₃
    → m₅ ≡ copy_list release_size file releases (to + releases_at) m₄ → m₅ ≡ copy_route file at to image
unfolding copy_route
route_lists_copied file at to image c n r l e₁ e₂ e₃ e₄ e₅ = rw (e₅, e₄, e₃, e₂, e₁, c, n, r, l)

-- A step that is given: one part is stored, the others are left.
module _ (pre : ℕ → MutBor (List ℕ) → ℕ → Type 0) (post : ℕ → MutBor (List ℕ) → ℕ → ℕ → MutBor (List ℕ) → Type 0) (size count done at to : ℕ) where
  pub steps_now : StepsRoom pre post size (count - done) at (to + size * done) → done < count → (image : MutBor (List ℕ)) → pre at image (to + size * done)
  unfolding StepsRoom
  steps_now room h = let left : count - done ≡ suc (count - (done + 1)) = omega arith in (rw left at room).0

  pub steps_on : StepsRoom pre post size (count - done) at (to + size * done) → done < count → (image after : MutBor (List ℕ)) (end : ℕ) → post at image (to + size * done) end after
      → StepsRoom pre post size (count - (done + 1)) end (to + size * (done + 1))
  unfolding StepsRoom
  steps_on room h image after end told =
      let left : count - done ≡ suc (count - (done + 1)) = omega arith in
      let place : to + size * done + size ≡ to + size * (done + 1) = rw (add-one done, mul-suc size done) (omega arith) in
      rw place at ((rw left at room).1 image after end told)

module _ (end : ℕ → ℕ) (copy : ℕ → ℕ → List ℕ → List ℕ) (size count done at to : ℕ) (image : List ℕ) where
  pub copied_on : {next : ℕ} {after : List ℕ} → done < count → next ≡ end at → after ≡ copy at (to + size * done) image
      → copied end copy size (count - (done + 1)) next (to + size * (done + 1)) after ≡ copied end copy size (count - done) at (to + size * done) image
  unfolding copied
  copied_on h e k =
      let left : count - done ≡ suc (count - (done + 1)) = omega arith in
      let place : to + size * done + size ≡ to + size * (done + 1) = rw (add-one done, mul-suc size done) (omega arith) in
      rw (left, e, k, ← place) refl

  pub copied_end : count ≤ done → image ≡ copied end copy size (count - done) at (to + size * done) image
  unfolding copied
  copied_end h = let none : count - done ≡ 0 = omega arith in rw none refl

-- Parts that a step stores as their definitions say.
module _ (part : Part) (file : List ℕ) where
  pub many_steps : {pre : ℕ → MutBor (List ℕ) → ℕ → Type 0} {post : ℕ → MutBor (List ℕ) → ℕ → ℕ → MutBor (List ℕ) → Type 0} → ((at to : ℕ) (image : MutBor (List ℕ)) → part.room file at to → pre at image to)
      → IsCopy post (part.end file) (part.copy file) → (k at to : ℕ) → ManyRoom part k file at to → StepsRoom pre post part.size k at to
  unfolding ManyRoom StepsRoom
  many_steps may says zero at to room = tt
  many_steps may says (suc k) at to room =
      (λ image. may at to image room.0, λ image after end told. let e = (says at to end image after told).0 in rw e (many_steps may says k (part.end file at) (to + part.size) room.1))

  pub many_copied : (k at to : ℕ) (image : List ℕ) → copied (part.end file) (part.copy file) part.size k at to image ≡ copy_many part k file at to image
  unfolding copied copy_many
  many_copied zero at to image = refl
  many_copied (suc k) at to image = many_copied k (part.end file at) (to + part.size) (part.copy file at to image)
