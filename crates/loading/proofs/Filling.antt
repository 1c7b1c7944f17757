-- A copy of what stands in a file fills the image from its front on, by the image of what is copied. Assumes nothing.
use mathlib.Core.Path.{◌≡◌, refl, sym, ap, subst, ◌∙◌}
use mathlib.Core.List.{List, [], ◌∷◌, ◌++◌, append_assoc, append-nil}
use Prim.Native.Nat.{ℕ, ◌+◌, ◌*◌, ◌-◌, ◌<◌, ◌≤◌}
use native.Mathlib.Nat.{add-zero, mul-zero, mul-suc, one-mul, mul-le-mul_left}
use native.Mathlib.Omega.{arith}
use lib.ListN.{length, get_or, take, drop, set, replicate, length-append, length-drop, length-replicate, replicate-append-replicate}
use lib.Seq.{sets, sets-eq, get_or-drop, drop-drop, take_at, drop_at, drop-append_seam}
use Rattle.laws.specs.Lists.{All, joined, all_every}
use Rattle.plan.specs.Limits.{most_path, most_clear, most_points, most_releases, release_size, path_at, clear_at, normal_at, reverse_at, releases_at, route_size, entry_clear_at, entry_size, image_size}
use Rattle.plan.specs.Records.{Route, Entry}
use Rattle.plan.specs.File.{release_file, counted_file, list_file, route_file, entry_file}
use Rattle.plan.specs.Image.{padded, counted_image, list_image, route_image, entry_image, release_in}
use Rattle.plan.proofs.Shown.{RouteFits, EntryFits, Shows, length_joined, release_shows}
use Rattle.loading.specs.Storing.{list_end, copy_list, clear_from, normal_from, reverse_from, releases_from, route_end, copy_route, entry_end, copy_entry, ListRoom}
use Rattle.loading.specs.Storing.{Part, route_part, entry_part, copy_many, copy_counted, ManyRoom, CountedRoom}

-- Bytes that stand at an offset of a file.
module _ (file : List ℕ) (at : ℕ) (bytes rest : List ℕ) (here : drop at file ≡ bytes ++ rest) where
  part_rest : drop (at + length bytes) file ≡ rest
  part_rest = rw (← drop-drop, here) (drop-append_seam bytes rest)

  part_inside : 0 < length bytes → at + length bytes ≤ length file
  part_inside h = omega (arith, length-drop at file, ap length here ∙ length-append bytes rest)

byte_here : (file : List ℕ) (at b : ℕ) (rest : List ℕ) → drop at file ≡ b ∷ rest → get_or file at 0 ≡ b
byte_here file at b rest here = sym (ap (λ i. get_or file i 0) (add-zero at)) ∙ sym (get_or-drop at file 0 0) ∙ ap (λ l. get_or l 0 0) here

-- Zeros, shut: a numeral of them would be written out.
unfoldable pub zeros : ℕ → List ℕ
zeros n = replicate n 0

length_zeros : (n : ℕ) → length (zeros n) ≡ n
unfolding zeros
length_zeros n = length-replicate {A = ℕ} n 0

pub zeros_none : zeros 0 ≡ []
unfolding zeros
zeros_none = refl

zeros_split : (k n : ℕ) → k ≤ n → zeros n ≡ zeros k ++ zeros (n - k)
unfolding zeros
zeros_split k n h = let e : k + (n - k) ≡ n = omega arith in sym (replicate-append-replicate k (n - k) 0 ∙ ap (λ m. replicate m 0) e)

-- An image that holds these bytes up to an offset, and zeros from there on.
pub record Filled (to : ℕ) (bytes image : List ℕ) : Type 0 where
  pub long : length bytes ≡ to
  pub whole : image ≡ bytes ++ zeros (image_size - to)

filled_as : {to to' : ℕ} {bytes bytes' image image' : List ℕ} → Filled to bytes image → to ≡ to' → bytes ≡ bytes' → image ≡ image' → Filled to' bytes' image'
filled_as f p q r = rw (← p, ← q, ← r) f

module _ (to : ℕ) (bytes image : List ℕ) (f : Filled to bytes image) where
  fill_zeros : (k : ℕ) → to + k ≤ image_size → Filled (to + k) (bytes ++ zeros k) image
  fill_zeros k h =
      let e : image_size - to - k ≡ image_size - (to + k) = omega arith in
      let s : zeros (image_size - to) ≡ zeros k ++ zeros (image_size - (to + k)) = zeros_split k (image_size - to) (omega arith) ∙ ap (λ m. zeros k ++ zeros m) e in
      record { long = rw (length-append, length_zeros) (omega arith); whole = f.whole ∙ rw (s, append_assoc) }

  fill_bytes : (more : List ℕ) → to + length more ≤ image_size → Filled (to + length more) (bytes ++ more) (sets image to more)
  fill_bytes more h =
      let space : List ℕ = zeros (length more) in
      let tail : List ℕ = zeros (image_size - (to + length more)) in
      let past : length (bytes ++ space) ≡ to + length more = (fill_zeros (length more) h).long in
      let e : image ≡ (bytes ++ space) ++ tail = (fill_zeros (length more) h).whole in
      let front : take to image ≡ bytes = rw (e, append_assoc) (take_at bytes (space ++ tail) to f.long) in
      let back : drop (to + length more) image ≡ tail = rw e (drop_at (bytes ++ space) tail (to + length more) past) in
      let room : to + length more ≤ length image = omega (arith, ap length e ∙ length-append (bytes ++ space) tail) in
      record { long = rw length-append (omega arith); whole = sets-eq more image to room ∙ rw (front, back) }

-- What a copy of one part does: it fills a slot of the image, and the file goes on past the part's end.
pub record Copied (part : Part) (slot file : List ℕ) (at : ℕ) (rest : List ℕ) : Type 0 where
  pub next : drop (part.end file at) file ≡ rest
  pub has_room : (to : ℕ) → to + part.size ≤ image_size → part.room file at to
  pub fills : (to past : ℕ) (before image : List ℕ) → to + part.size ≡ past → past ≤ image_size → Filled to before image → Filled past (before ++ slot) (part.copy file at to image)

-- things of one size with their count before them, in a slot for the most there may be
abbrev pub list_part : ℕ → ℕ → Part
list_part size most = record { end = list_end size; copy = copy_list size; room = ListRoom size; size = 1 + size * most }

module _ (size count most : ℕ) (bytes file : List ℕ) (at : ℕ) (rest : List ℕ) (here : drop at file ≡ (count ∷ bytes) ++ rest) (long : length bytes ≡ size * count) (few : count ≤ most) where
  list_count : get_or file at 0 ≡ count
  list_count = byte_here file at count (bytes ++ rest) here

  list_few : size * count ≤ size * most
  list_few = mul-le-mul_left size few

  list_room_lem : (to : ℕ) → to + (1 + size * most) ≤ image_size → ListRoom size file at to
  list_room_lem to h =
      record {
        in_file = rw list_count (omega (arith, part_inside file at (count ∷ bytes) rest here (omega arith)));
        in_image = rw list_count (omega (arith, list_few));
      }

  list_fills : (to past : ℕ) (before image : List ℕ) → to + (1 + size * most) ≡ past → past ≤ image_size
      → Filled to before image → Filled past (before ++ count ∷ padded (size * most) bytes) (copy_list size file at to image)
  unfolding copy_list padded zeros
  list_fills to past before image e h f =
      let taken : take (1 + size * get_or file at 0) (drop at file) ≡ count ∷ bytes = rw (list_count, here) (take_at (count ∷ bytes) rest (1 + size * count) (omega arith)) in
      let full : Filled (to + length (count ∷ bytes)) (before ++ count ∷ bytes) (sets image to (count ∷ bytes)) = fill_bytes to before image f (count ∷ bytes) (omega (arith, list_few)) in
      let slot : Filled (to + length (count ∷ bytes) + (size * most - length bytes)) (before ++ count ∷ bytes ++ zeros (size * most - length bytes)) (sets image to (count ∷ bytes)) =
      fill_zeros _ _ _ full (size * most - length bytes) (omega (arith, list_few)) in
      filled_as slot (omega (arith, list_few)) (append_assoc before (count ∷ bytes) (zeros (size * most - length bytes))) (rw taken)

  list_copied : Copied (list_part size most) (count ∷ padded (size * most) bytes) file at rest
  unfolding list_end
  list_copied =
      let end : at + 1 + size * get_or file at 0 ≡ at + length (count ∷ bytes) = rw list_count (omega arith) in
      record { next = rw end (part_rest file at (count ∷ bytes) rest here); has_room = list_room_lem; fills = list_fills }

pub numbers_copied : (most : ℕ) (l file : List ℕ) (at : ℕ) (rest : List ℕ) → drop at file ≡ list_file l ++ rest → length l ≤ most → Copied (list_part 1 most) (list_image most l) file at rest
unfolding list_file list_image
numbers_copied most l file at rest here few =
    subst (λ m. Copied (list_part 1 most) (length l ∷ padded m l) file at rest) (one-mul most) (list_copied 1 (length l) most l file at rest here (sym (one-mul (length l))) few)

pub things_copied : {A : Type 0} (thing : List ℕ → ℕ → A) (size most : ℕ) (own : A → List ℕ) (l : List A) (file : List ℕ) (at : ℕ) (rest : List ℕ)
    → drop at file ≡ counted_file own l ++ rest → All (Shows thing size own) l → length l ≤ most → Copied (list_part size most) (counted_image size most own l) file at rest
unfolding counted_file counted_image
things_copied thing size most own l file at rest here s few = list_copied size (length l) most (joined own l) file at rest here (length_joined thing size own l s) few

-- A route and an entry: a number, then their lists.
module _ (r : Route) (f : RouteFits r) (file : List ℕ) (at : ℕ) (rest : List ℕ) (here : drop at file ≡ route_file r ++ rest) where
  from_releases : List ℕ
  from_releases = counted_file release_file r.releases ++ rest

  from_reverse : List ℕ
  from_reverse = list_file r.reverse ++ from_releases

  from_normal : List ℕ
  from_normal = list_file r.normal ++ from_reverse

  from_clear : List ℕ
  from_clear = list_file r.clear ++ from_normal

  path_copied : Copied (list_part 1 most_path) (list_image most_path r.path) file (at + 1) from_clear
  unfolding route_file from_clear from_normal from_reverse from_releases
  path_copied = numbers_copied most_path r.path file (at + 1) _ (part_rest file at (r.start ∷ []) _ (here ∙ simp append_assoc)) f.path

  clear_copied : Copied (list_part 1 most_clear) (list_image most_clear r.clear) file (clear_from file at) from_normal
  unfolding clear_from from_clear
  clear_copied = numbers_copied most_clear r.clear file (clear_from file at) from_normal path_copied.next f.clear

  normal_copied : Copied (list_part 1 most_points) (list_image most_points r.normal) file (normal_from file at) from_reverse
  unfolding normal_from from_normal
  normal_copied = numbers_copied most_points r.normal file (normal_from file at) from_reverse clear_copied.next f.normal

  reverse_copied : Copied (list_part 1 most_points) (list_image most_points r.reverse) file (reverse_from file at) from_releases
  unfolding reverse_from from_reverse
  reverse_copied = numbers_copied most_points r.reverse file (reverse_from file at) from_releases normal_copied.next f.reverse

  releases_copied : Copied (list_part release_size most_releases) (counted_image release_size most_releases release_file r.releases) file (releases_from file at) rest
  unfolding releases_from from_releases
  releases_copied =
      things_copied release_in release_size most_releases release_file r.releases file (releases_from file at) rest reverse_copied.next (all_every release_shows r.releases) f.releases

  route_fills : (to past : ℕ) (before image : List ℕ) → to + route_size ≡ past → past ≤ image_size → Filled to before image → Filled past (before ++ route_image r) (copy_route file at to image)
  unfolding copy_route route_image route_file
  route_fills to past before image e h g =
      let start : Filled (to + path_at) (before ++ r.start ∷ []) (set image to (get_or file at 0)) =
      rw (byte_here file at r.start _ here) (fill_bytes to before image g (r.start ∷ []) (omega arith)) in
      let path = path_copied.fills (to + path_at) (to + clear_at) _ _ (omega arith) (omega arith) start in
      let clear = clear_copied.fills (to + clear_at) (to + normal_at) _ _ (omega arith) (omega arith) path in
      let normal = normal_copied.fills (to + normal_at) (to + reverse_at) _ _ (omega arith) (omega arith) clear in
      let reverse = reverse_copied.fills (to + reverse_at) (to + releases_at) _ _ (omega arith) (omega arith) normal in
      filled_as (releases_copied.fills (to + releases_at) past _ _ (omega arith) h reverse) refl (simp append_assoc) refl

  pub route_copied : Copied route_part (route_image r) file at rest
  unfolding route_end
  route_copied =
      record {
        next = releases_copied.next;
        has_room = λ to h.
            record {
              path = path_copied.has_room (to + path_at) (omega arith);
              clear = clear_copied.has_room (to + clear_at) (omega arith);
              normal = normal_copied.has_room (to + normal_at) (omega arith);
              reverse = reverse_copied.has_room (to + reverse_at) (omega arith);
              releases = releases_copied.has_room (to + releases_at) (omega arith);
            };
        fills = route_fills;
      }

module _ (e : Entry) (f : EntryFits e) (file : List ℕ) (at : ℕ) (rest : List ℕ) (here : drop at file ≡ entry_file e ++ rest) where
  entry_clear_copied : Copied (list_part 1 most_clear) (list_image most_clear e.clear) file (at + 1) rest
  unfolding entry_file
  entry_clear_copied = numbers_copied most_clear e.clear file (at + 1) rest (part_rest file at (e.track ∷ []) _ here) f.clear

  entry_fills : (to past : ℕ) (before image : List ℕ) → to + entry_size ≡ past → past ≤ image_size → Filled to before image → Filled past (before ++ entry_image e) (copy_entry file at to image)
  unfolding copy_entry entry_image entry_file
  entry_fills to past before image i h g =
      let track : Filled (to + entry_clear_at) (before ++ e.track ∷ []) (set image to (get_or file at 0)) =
      rw (byte_here file at e.track _ here) (fill_bytes to before image g (e.track ∷ []) (omega arith)) in
      filled_as (entry_clear_copied.fills (to + entry_clear_at) past _ _ (omega arith) h track) refl (simp append_assoc) refl

  pub entry_copied : Copied entry_part (entry_image e) file at rest
  unfolding entry_end
  entry_copied =
      record { next = entry_clear_copied.next; has_room = λ to h. record { clear = entry_clear_copied.has_room (to + entry_clear_at) (omega arith) }; fills = entry_fills }

-- Parts one after the other, and with their count before them.
module _ {A : Type 0} (part : Part) (own image : A → List ℕ) where
  abbrev pub Copies : A → Type 0
  Copies a = (file : List ℕ) (at : ℕ) (rest : List ℕ) → drop at file ≡ own a ++ rest → Copied part (image a) file at rest

  many_room : (l : List A) → All Copies l → (file : List ℕ) (at : ℕ) (rest : List ℕ) (to : ℕ)
      → drop at file ≡ joined own l ++ rest → to + part.size * length l ≤ image_size → ManyRoom part (length l) file at to
  unfolding All joined ManyRoom
  many_room [] s file at rest to here h = tt
  many_room (a ∷ l) s file at rest to here h =
      let c = s.0 file at (joined own l ++ rest) (here ∙ append_assoc (own a) (joined own l) rest) in
      let size = mul-suc part.size (length l) in
      (c.has_room to (omega arith), many_room l s.1 file (part.end file at) rest (to + part.size) c.next (omega arith))

  many_fills : (l : List A) → All Copies l → (file : List ℕ) (at : ℕ) (rest : List ℕ) (to past : ℕ) (before whole : List ℕ)
      → drop at file ≡ joined own l ++ rest → to + part.size * length l ≡ past → past ≤ image_size → Filled to before whole
      → Filled past (before ++ joined image l) (copy_many part (length l) file at to whole)
  unfolding All joined copy_many
  many_fills [] s file at rest to past before whole here e h g = filled_as g (omega (arith, mul-zero part.size)) (sym (append-nil before)) refl
  many_fills (a ∷ l) s file at rest to past before whole here e h g =
      let c = s.0 file at (joined own l ++ rest) (here ∙ append_assoc (own a) (joined own l) rest) in
      let size = mul-suc part.size (length l) in
      let first = c.fills to (to + part.size) before whole refl (omega arith) g in
      filled_as (many_fills l s.1 file (part.end file at) rest (to + part.size) past _ _ c.next (omega arith) h first) refl (append_assoc before (image a) (joined image l)) refl

  module _ (most : ℕ) (l : List A) (s : All Copies l) (few : length l ≤ most) (file : List ℕ) (at : ℕ) (rest : List ℕ) (here : drop at file ≡ counted_file own l ++ rest) where
    counted_few : part.size * length l ≤ part.size * most
    counted_few = mul-le-mul_left part.size few

    counted_rest : drop (at + 1) file ≡ joined own l ++ rest
    unfolding counted_file
    counted_rest = part_rest file at (length l ∷ []) (joined own l ++ rest) here

    counted_count : get_or file at 0 ≡ length l
    unfolding counted_file
    counted_count = byte_here file at (length l) (joined own l ++ rest) here

    pub counted_room : (to : ℕ) → to + (1 + part.size * most) ≤ image_size → CountedRoom part file at to
    unfolding counted_file
    counted_room to h =
        let inside : at + 1 ≤ length file = part_inside file at (length l ∷ []) (joined own l ++ rest) here (omega arith) in
        record { count = omega arith; each = rw counted_count (many_room l s file (at + 1) rest (to + 1) counted_rest (omega (arith, counted_few))) }

    pub counted_fills : (to past : ℕ) (before whole : List ℕ) → to + (1 + part.size * most) ≡ past → past ≤ image_size
        → Filled to before whole → Filled past (before ++ counted_image part.size most image l) (copy_counted part file at to whole)
    unfolding counted_image padded zeros copy_counted
    counted_fills to past before whole e h g =
        let count : Filled (to + 1) (before ++ length l ∷ []) (set whole to (length l)) = fill_bytes to before whole g (length l ∷ []) (omega arith) in
        let things = many_fills l s file (at + 1) rest (to + 1) (to + 1 + part.size * length l) _ _ counted_rest refl (omega (arith, counted_few)) count in
        let long : length (joined image l) ≡ part.size * length l = omega (arith, things.long, length-append (before ++ length l ∷ []) (joined image l)) in
        let slot = fill_zeros _ _ _ things (part.size * most - length (joined image l)) (omega (arith, counted_few)) in
        filled_as slot (omega (arith, counted_few)) (simp append_assoc) (rw counted_count)
