-- What a reader answers at an offset of a file, in the steps that the code takes: a byte, a count, one thing after another. Assumes nothing.
use Rattle.std.specs.Prelude.{Err, Ok, Result}
use mathlib.Core.Path.{◌≡◌, refl, sym, ap, ◌∙◌}
use mathlib.Core.Bool.{Bool, true, false, cond}
use mathlib.Core.List.{List, [], ◌∷◌}
use Prim.Native.Nat.{ℕ, zero, suc, ◌+◌, ◌-◌, ◌≤◌, ◌<◌}
use native.Mathlib.Numerals.{add-one}
use native.Mathlib.Omega.{arith}
use Rattle.std.proofs.Common.{Fits, w8, sub-one}
use lib.ListN.{length, get_or, drop, drop_of_length-le}
use lib.Seq.{drop-cons}
use lib.Dec.{ltb}
use borrow.Author.Tests.{lt-ltb, le-ltb, ltb-false}
use mathlib.Core.Logic.{◌⊎◌, inl, inr}
use Rattle.laws.specs.Tests.{never, below?}
use Rattle.plan.specs.declared.Track.{Track}
use Rattle.plan.specs.Limits.{least_tracks, most_tracks, most_routes, most_entries, least_path, most_path, most_points, most_releases}
use Rattle.plan.specs.Kinds.{is_point, limit_of}
use Rattle.plan.specs.Records.{Entry}
use Rattle.reading.specs.declared.Form.{Form}
use Rattle.reading.specs.declared.Form.TheVariants.{EndsEarly, BadCount, BadNumber, NotRising}
use Rattle.reading.specs.Calls.{byte_at, Step, IsStep, past, stepped, freed, go_on, repeated, as_often, counted_steps}
use Rattle.reading.specs.Reading.{Got, form, got, Reader, follow, and_then, done, number, count, many, counted, below, free, above, path_list, rising_list, point_list, track, track_section, release, after_release, release_list, route, route_section, entry, after_entry, entry_section, seen, scanned}

-- The bytes from an offset on.
module _ (file : List ℕ) (at : ℕ) where
  ended : length file ≤ at → drop at file ≡ []
  ended h = drop_of_length-le file h

  more : at < length file → drop at file ≡ get_or file at 0 ∷ drop (at + 1) file
  more h = rw (add-one, drop-cons file at 0 h)

-- The number at an offset, where there is one.
module _ (file : List ℕ) (at : ℕ) where
  byte_known : {v : ℕ} → Ok v ≡ byte_at file at → (at < length file) × (v ≡ get_or file at 0)
  byte_known {v} e = elim (below? at (length file)) [
    | inl h ↦ (h, (let t = lt-ltb _ _ h in let w : Ok v ≡ Ok (get_or file at 0) = rw t at e in cc))
    | inr h ↦ never (let t = le-ltb _ _ h in let w : Ok v ≡ Err (EndsEarly at) = rw t at e in cc)
  ]

  byte_absent : {f : Form} → Err f ≡ byte_at file at → (length file ≤ at) × (f ≡ EndsEarly at)
  byte_absent {f} e = elim (below? at (length file)) [
    | inl h ↦ never (let t = lt-ltb _ _ h in let w : Err f ≡ Ok (get_or file at 0) = rw t at e in cc)
    | inr h ↦ (h, (let t = le-ltb _ _ h in let w : Err f ≡ Err (EndsEarly at) = rw t at e in cc))
  ]

-- .. is a byte
pub byte_small : (file : List ℕ) (at : ℕ) {b : Result ℕ Form} → ((i : ℕ) → Fits w8 (get_or file i 0)) → b ≡ byte_at file at → {v : ℕ} → b ≡ Ok v → v < 256
byte_small file at bytes told e = let k = byte_known file at (sym e ∙ told) in omega (arith, k.1, bytes at)

-- One number: of the byte at the offset.
module _ (fits : ℕ → Bool) (least : ℕ) (file : List ℕ) (at : ℕ) {b : Result ℕ Form} (told : b ≡ byte_at file at) where
  pub number_absent : {r : Result (ℕ × ℕ) Form} {f : Form} → r ≡ Err f → b ≡ Err f → r ≡ stepped (number fits) above file at least
  unfolding stepped number
  number_absent e a = let k = byte_absent file at (sym a ∙ told) in rw (e, k.1, ended file at k.0)

  pub byte_unfit : {v : ℕ} → b ≡ Ok v → fits v ≡ false → Err (BadNumber at) ≡ stepped (number fits) above file at least
  unfolding stepped number
  byte_unfit a u = let k = byte_known file at (sym a ∙ told) in rw (more file at k.0, ← k.1, u)

  pub number_low : {v : ℕ} → b ≡ Ok v → fits v ≡ true → v < least → Err (NotRising at) ≡ stepped (number fits) above file at least
  unfolding stepped number
  number_low a u l = let k = byte_known file at (sym a ∙ told) in rw (more file at k.0, ← k.1, u, lt-ltb _ _ l)

  pub number_good : {v : ℕ} → b ≡ Ok v → fits v ≡ true → least ≤ v → Ok (at + 1, v + 1) ≡ stepped (number fits) above file at least
  unfolding stepped number
  number_good a u l = let k = byte_known file at (sym a ∙ told) in rw (more file at k.0, ← k.1, u, le-ltb _ _ l)

-- The same of the byte that stands there.
pub number_unfit : (fits : ℕ → Bool) (least : ℕ) (file : List ℕ) (at : ℕ) → at < length file → fits (get_or file at 0) ≡ false → Err (BadNumber at) ≡ scanned (number fits least) file at
unfolding scanned number
number_unfit fits least file at h u = rw (more file at h, u)

-- One count.
module _ (least most : ℕ) (file : List ℕ) (at : ℕ) {b : Result ℕ Form} (told : b ≡ byte_at file at) where
  pub count_absent : {r : Result ℕ Form} {f : Form} → r ≡ Err f → b ≡ Err f → r ≡ scanned (count least most) file at
  unfolding scanned count
  count_absent e a = let k = byte_absent file at (sym a ∙ told) in rw (e, k.1, ended file at k.0)

  pub count_unfit : {v : ℕ} → b ≡ Ok v → (v < least) ⊎ ((least ≤ v) × (most < v)) → Err (BadCount at) ≡ scanned (count least most) file at
  unfolding scanned count
  count_unfit a h = let k = byte_known file at (sym a ∙ told) in elim h [
    | inl l ↦ rw (more file at k.0, ← k.1, lt-ltb _ _ l)
    | inr l ↦ rw (more file at k.0, ← k.1, le-ltb _ _ l.0, lt-ltb _ _ l.1)
  ]

  pub count_good : {v : ℕ} → b ≡ Ok v → least ≤ v → v ≤ most → Ok (at + 1) ≡ scanned (count least most) file at
  unfolding scanned count
  count_good a l m = let k = byte_known file at (sym a ∙ told) in rw (more file at k.0, ← k.1, le-ltb _ _ l, le-ltb _ _ m)

-- A value that was read says where it came from; what follows from that follows.
pub follow_got : {A B Q : Type 0} (g : Got A) (k : A → Reader B) {b : B} {p : ℕ} {rest : List ℕ}
    → follow g k ≡ got b p rest → ((a : A) (q : ℕ) (mid : List ℕ) → g ≡ got a q mid → k a q mid ≡ got b p rest → Q) → Q
follow_got (form f) k e go = never (cc)
follow_got (got a q mid) k e go = go a q mid refl e

pub cond_got : {A Q : Type 0} (b : Bool) (f : Form) (y : Got A) {a : A} {p : ℕ} {rest : List ℕ} → cond b (form f) y ≡ got a p rest → (b ≡ false → y ≡ got a p rest → Q) → Q
cond_got true f y e go = never (cc)
cond_got false f y e go = go refl e

pub cond_else : {A Q : Type 0} (b : Bool) (f : Form) (y : Got A) {a : A} {p : ℕ} {rest : List ℕ} → cond b y (form f) ≡ got a p rest → (b ≡ true → y ≡ got a p rest → Q) → Q
cond_else true f y e go = go refl e
cond_else false f y e go = never (cc)

-- A number or a count that was read is the byte there, before the end, and the next byte follows.
pub record Byte (file : List ℕ) (at v p : ℕ) (rest : List ℕ) : Type 0 where
  pub value : v ≡ get_or file at 0
  pub within : at < length file
  pub next : p ≡ at + 1
  pub tail : rest ≡ drop p file

byte : (file : List ℕ) (at : ℕ) {v p : ℕ} {rest : List ℕ} → at < length file → ◌≡◌ {A = Got ℕ} (got (get_or file at 0) (at + 1) (drop (at + 1) file)) (got v p rest) → Byte file at v p rest
byte file at {v} {p} {rest} h e =
    let n : at + 1 ≡ p = cc in
    let t : drop (at + 1) file ≡ rest = cc in
    record { value = cc; within = h; next = cc; tail = sym t ∙ ap (λ (k : ℕ). drop k file) n }

pub number_byte : (fits : ℕ → Bool) (least : ℕ) (file : List ℕ) (at : ℕ) {v p : ℕ} {rest : List ℕ} → number fits least at (drop at file) ≡ got v p rest → Byte file at v p rest
unfolding number
number_byte fits least file at e = elim (below? at (length file)) [
  | inl h ↦ cond_else (fits (get_or file at 0)) (BadNumber at) _ (rw (more file at h) at e) λ t₁ e₁.
      cond_got (ltb (get_or file at 0) least) (NotRising at) _ e₁ λ t₂ e₂. byte file at h e₂
  | inr h ↦ never (let z = rw (ended file at h) at e in cc)
]

pub record Counted (file : List ℕ) (at most v p : ℕ) (rest : List ℕ) : Type 0 where
  pub byte : Byte file at v p rest
  pub few : get_or file at 0 ≤ most

pub count_byte : (least most : ℕ) (file : List ℕ) (at : ℕ) {v p : ℕ} {rest : List ℕ} → count least most at (drop at file) ≡ got v p rest → Counted file at most v p rest
unfolding count
count_byte least most file at e = elim (below? at (length file)) [
  | inl h ↦ cond_got (ltb (get_or file at 0) least) (BadCount at) _ (rw (more file at h) at e) λ t₁ e₁.
      cond_got (ltb most (get_or file at 0)) (BadCount at) _ e₁ λ t₂ e₂. record { byte = byte file at h e₂; few = ltb-false _ _ t₂ }
  | inr h ↦ never (let z = rw (ended file at h) at e in cc)
]

-- A reader is steady if the bytes that it leaves are those of the file from the offset that it gives.
pub record Steady {A : Type 0} (reader : Reader A) : Type 0 where
  pub tail : (file : List ℕ) (at : ℕ) {a : A} {p : ℕ} {rest : List ℕ} → reader at (drop at file) ≡ got a p rest → rest ≡ drop p file

pub number_steady : (fits : ℕ → Bool) (least : ℕ) → Steady (number fits least)
number_steady fits least = record { tail = λ file at e. (number_byte fits least file at e).tail }

pub count_steady : (least most : ℕ) → Steady (count least most)
count_steady least most = record { tail = λ file at e. (count_byte least most file at e).byte.tail }

pub done_steady : {A : Type 0} (a : A) → Steady (done a)
unfolding done
done_steady a = record { tail = λ file at {a = b} {p} {rest} e. (let z : drop at file ≡ rest = cc in let q : at ≡ p = cc in sym z ∙ ap (λ (k : ℕ). drop k file) q) }

pub then_steady : {A B : Type 0} {reader : Reader A} {k : A → Reader B} → Steady reader → ((a : A) → Steady (k a)) → Steady (and_then reader k)
unfolding and_then
then_steady {reader = reader} {k = k} s t = record {
  tail = λ file at e. follow_got (reader at (drop at file)) k e λ a q mid h g.
      (t a).tail file q (rw (s.tail file at h) at g);
}

pub many_steady : {A : Type 0} {one : ℕ → Reader A} (next : A → ℕ) → ((least : ℕ) → Steady (one least)) → (k least : ℕ) → Steady (many one next k least)
unfolding many
many_steady next s zero least = done_steady []
many_steady next s (suc k) least = then_steady (s least) (λ a. then_steady (many_steady next s k (next a)) (λ l. done_steady (a ∷ l)))

-- The lists and the records are steady.

pub counted_steady : {A : Type 0} {one : ℕ → Reader A} (least most : ℕ) (next : A → ℕ) → ((floor : ℕ) → Steady (one floor)) → Steady (counted least most one next)
unfolding counted
counted_steady least most next s = then_steady (count_steady least most) (λ k. many_steady next s k 0)

pub path_steady : (tracks : ℕ) → Steady (path_list tracks)
unfolding path_list
path_steady tracks = counted_steady least_path most_path free (number_steady (below tracks))

pub rising_steady : (tracks most : ℕ) → Steady (rising_list tracks most)
unfolding rising_list
rising_steady tracks most = counted_steady 0 most above (number_steady (below tracks))

pub points_steady : (tracks : List Track) → Steady (point_list tracks)
unfolding point_list
points_steady tracks = counted_steady 0 most_points above (number_steady (is_point tracks))

pub track_steady : (tracks : ℕ) → Steady (track tracks)
unfolding track
track_steady tracks =
    then_steady (number_steady _ _) λ kind. then_steady (number_steady _ _) λ first. then_steady (number_steady _ _) λ second. then_steady (number_steady _ _) λ third.
    done_steady _

pub tracks_steady : Steady track_section
unfolding track_section
tracks_steady = then_steady (count_steady least_tracks most_tracks) (λ k. many_steady free (λ least. track_steady k) k 0)

pub release_steady : (tracks : List Track) (least : ℕ) → Steady (release tracks least)
unfolding release
release_steady tracks least = then_steady (number_steady _ _) λ from. then_steady (number_steady _ _) λ point. done_steady _

pub releases_steady : (tracks : List Track) → Steady (release_list tracks)
unfolding release_list
releases_steady tracks = counted_steady 0 most_releases after_release (release_steady tracks)

pub route_steady : (tracks : List Track) (signals : ℕ) → Steady (route tracks signals)
unfolding route
route_steady tracks signals =
    then_steady (number_steady _ _) λ start. then_steady (path_steady _) λ path. then_steady (rising_steady _ _) λ clear. then_steady (points_steady _) λ normal.
    then_steady (points_steady _) λ reverse. then_steady (releases_steady _) λ releases. done_steady _

pub routes_steady : (tracks : List Track) (signals : ℕ) → Steady (route_section tracks signals)
unfolding route_section
routes_steady tracks signals = counted_steady 0 most_routes free (λ least. route_steady tracks signals)

pub entry_steady : (tracks least : ℕ) → Steady (entry tracks least)
unfolding entry
entry_steady tracks least = then_steady (number_steady _ _) λ on. then_steady (rising_steady _ _) λ clear. done_steady _

pub entries_steady : (tracks : ℕ) → Steady (entry_section tracks)
unfolding entry_section
entries_steady tracks = counted_steady 0 most_entries after_entry (entry_steady tracks)

-- What a scan's answer says of the reader.
module _ {A : Type 0} (reader : Reader A) (file : List ℕ) (at : ℕ) {r : Result ℕ Form} (told : r ≡ scanned reader file at) where
  pub refused : {f : Form} → r ≡ Err f → reader at (drop at file) ≡ form f
  unfolding scanned
  refused e = go (reader at (drop at file)) (sym e ∙ told)
    where
      go : (g : Got A) {f : Form} → Err f ≡ seen g → g ≡ form f
      go (form x) {f} z = let w : f ≡ x = cc in rw w
      go (got a p rest) z = never (cc)

  pub passed : {p : ℕ} → Steady reader → r ≡ Ok p → (a : A) × (reader at (drop at file) ≡ got a p (drop p file))
  unfolding scanned
  passed s e = go (reader at (drop at file)) (λ a q rest h. s.tail file at h) (sym e ∙ told)
    where
      go : (g : Got A) → ((a : A) (q : ℕ) (rest : List ℕ) → g ≡ got a q rest → rest ≡ drop q file) → {p : ℕ} → Ok p ≡ seen g → (a : A) × (g ≡ got a p (drop p file))
      go (form x) t z = never (cc)
      go (got a q rest) t {p} z = let w : q ≡ p = cc in (a, rw (t a q rest refl, w))

-- One thing after another: the first is refused; or passed, and the answer is that of what follows; or the whole is made of the last.
module _ {A B : Type 0} (reader : Reader A) (k : A → Reader B) (file : List ℕ) (at : ℕ) where
  then_refused : {f : Form} → reader at (drop at file) ≡ form f → Err f ≡ scanned (and_then reader k) file at
  unfolding scanned and_then
  then_refused e = rw e

  pub then_passed : {a : A} {p : ℕ} → reader at (drop at file) ≡ got a p (drop p file) → scanned (k a) file p ≡ scanned (and_then reader k) file at
  unfolding scanned and_then
  then_passed e = rw e

  pub then_stop : {r : Result ℕ Form} {f : Form} → r ≡ scanned reader file at → r ≡ Err f → r ≡ scanned (and_then reader k) file at
  then_stop told e = e ∙ then_refused (refused reader file at told e)

  pub then_halt : {r x : Result ℕ Form} {f : Form} → x ≡ Err f → r ≡ Err f → r ≡ scanned reader file at → x ≡ scanned (and_then reader k) file at
  then_halt x e told = x ∙ sym e ∙ then_stop told e

  pub then_step : {r x : Result ℕ Form} {p : ℕ} → r ≡ scanned reader file at → Steady reader → r ≡ Ok p
      → ((a : A) → reader at (drop at file) ≡ got a p (drop p file) → x ≡ scanned (k a) file p) → x ≡ scanned (and_then reader k) file at
  then_step told s e go = let w = passed reader file at told s e in go w.0 w.1 ∙ then_passed w.1

pub then_last : {A B : Type 0} (reader : Reader A) (make : A → B) (file : List ℕ) (at : ℕ) {r : Result ℕ Form} → r ≡ scanned reader file at → r ≡ scanned (and_then reader (λ a. done (make a))) file at
unfolding scanned and_then done
then_last reader make file at told = told ∙ go (reader at (drop at file))
  where
    go : (g : Got _) → seen g ≡ seen (follow g (λ a p rest. got (make a) p rest))
    go (form f) = refl
    go (got a p rest) = refl

-- A count that was passed is the byte there.
pub counted_byte : (least most : ℕ) (file : List ℕ) (from : ℕ) {r : Result ℕ Form} {p : ℕ} → r ≡ scanned (count least most) file from → r ≡ Ok p → Counted file from most (get_or file from 0) p (drop p file)
counted_byte least most file from told e =
    let w = passed (count least most) file from told (count_steady least most) e in
    let b = count_byte least most file from w.1 in
    rw (← b.byte.value) b

-- A count, then what is read after it.
module _ {A : Type 0} (least most : ℕ) (body : ℕ → Reader A) (file : List ℕ) (from : ℕ) {r : Result ℕ Form} (told : r ≡ scanned (count least most) file from) where
  pub counted_refused : {x : Result ℕ Form} {f : Form} → x ≡ Err f → r ≡ Err f → x ≡ scanned (and_then (count least most) body) file from
  counted_refused x e = x ∙ sym e ∙ then_stop (count least most) body file from told e

  pub counted_start : {p left : ℕ} → r ≡ Ok p → left ≡ get_or file from 0 → scanned (body left) file p ≡ scanned (and_then (count least most) body) file from
  counted_start e z =
      let w = passed (count least most) file from told (count_steady least most) e in
      let b = count_byte least most file from w.1 in
      rw (z, ← b.byte.value) (then_passed (count least most) body file from w.1)

-- A number that was passed is the byte there.
pub number_passed : (fits : ℕ → Bool) (least : ℕ) (file : List ℕ) (at : ℕ) {r : Result ℕ Form} {p : ℕ} → r ≡ scanned (number fits least) file at → r ≡ Ok p → Byte file at (get_or file at 0) p (drop p file)
number_passed fits least file at told e =
    let w = passed (number fits least) file at told (number_steady fits least) e in
    let b = number_byte fits least file at w.1 in
    rw (← b.value) b

-- A track's number has the limit of the kind that was read.
pub limit_told : (fits : ℕ → Bool) (tracks i : ℕ) (file : List ℕ) (at p : ℕ) {kind q limit x : ℕ} {rest : List ℕ} {r : Result ℕ Form} → number fits 0 at (drop at file) ≡ got kind q rest
    → x ≡ get_or file at 0 → limit ≡ limit_of tracks x i → r ≡ scanned (number (below limit) 0) file p → r ≡ scanned (number (below (limit_of tracks kind i)) 0) file p
limit_told fits tracks i file at p e z l told = rw ((number_byte fits 0 file at e).value, ← z, ← l) told

-- What a step says of its reader.
module _ {A : Type 0} (one : ℕ → Reader A) (next : A → ℕ) (file : List ℕ) (least at : ℕ) {r : Result (ℕ × ℕ) Form} (told : r ≡ stepped one next file at least) where
  pub step_form : {f : Form} → r ≡ Err f → one least at (drop at file) ≡ form f
  unfolding stepped
  step_form {f} e = go (one least at (drop at file)) (sym e ∙ told)
    where
      go : (g : Got A) → Err f ≡ past next g → g ≡ form f
      go (form x) z = let w : f ≡ x = cc in rw w refl
      go (got v p rest) z = never (cc)

  pub step_got : Steady (one least) → {p floor : ℕ} → r ≡ Ok (p, floor) → (a : A) × (one least at (drop at file) ≡ got a p (drop p file)) × (floor ≡ next a)
  unfolding stepped
  step_got s {p} {floor} e = go (one least at (drop at file)) refl (sym e ∙ told)
    where
      go : (g : Got A) → one least at (drop at file) ≡ g → Ok (p, floor) ≡ past next g → (a : A) × (g ≡ got a p (drop p file)) × (floor ≡ next a)
      go (form x) h z = never (cc)
      go (got v q rest) h z =
          let w : ◌≡◌ {A = ℕ × ℕ} (p, floor) (q, next v) = cc in
          let end : p ≡ q = ap (λ (t : ℕ × ℕ). t.0) w in
          let tail : rest ≡ drop q file = s.tail file at h in
          (v, rw (tail, end) refl, ap (λ (t : ℕ × ℕ). t.1) w)

  -- where it ends is where its reader does
  pub step_refused : {x : Result ℕ Form} {f : Form} → x ≡ Err f → r ≡ Err f → x ≡ scanned (one least) file at
  unfolding scanned
  step_refused x e = let w = step_form e in rw (x, w) refl

  pub step_passed : Steady (one least) → {p floor : ℕ} → r ≡ Ok (p, floor) → Ok p ≡ scanned (one least) file at
  unfolding scanned
  step_passed s e = let w = step_got s e in rw w.1 refl

-- A step after which any number may follow.
pub free_step : {A : Type 0} (one : ℕ → Reader A) (file : List ℕ) (least at : ℕ) {r : Result ℕ Form} {x : Result (ℕ × ℕ) Form}
    → x ≡ freed r → r ≡ scanned (one least) file at → x ≡ stepped one free file at least
unfolding stepped scanned
free_step {A} one file least at {r} {x} h told = h ∙ ap freed told ∙ go (one least at (drop at file))
  where
    go : (g : Got A) → freed (seen g) ≡ past free g
    go (form f) = refl
    go (got v p rest) = refl

pub free_same : {A : Type 0} (one : Reader A) (file : List ℕ) (least at : ℕ) {r : Result ℕ Form} {x : Result (ℕ × ℕ) Form}
    → r ≡ scanned one file at → x ≡ freed r → x ≡ stepped (λ floor. one) free file at least
free_same one file least at told h = free_step (λ floor. one) file least at h told

-- The loop of a step: a thing is refused, a thing is passed, none is left.
module _ (step : Step) (count done least at : ℕ) where
  repeated_more : done < count → repeated step (count - done) at least ≡ go_on (step at least) (λ p floor. repeated step (count - (done + 1)) p floor)
  unfolding repeated
  repeated_more h = let e : count - done ≡ suc (count - (done + 1)) = omega arith in rw e refl

  pub repeated_stop : {r : Result (ℕ × ℕ) Form} {x : Result ℕ Form} {f : Form} → done < count → x ≡ Err f → r ≡ step at least → r ≡ Err f → x ≡ repeated step (count - done) at least
  repeated_stop h e told a = rw (e, repeated_more h, ← told, a) refl

  pub repeated_on : {r : Result (ℕ × ℕ) Form} {p floor : ℕ} → done < count → r ≡ step at least → r ≡ Ok (p, floor) → repeated step (count - (done + 1)) p floor ≡ repeated step (count - done) at least
  repeated_on h told a = rw (repeated_more h, ← told, a) refl

  pub repeated_end : count ≤ done → Ok at ≡ repeated step (count - done) at least
  unfolding repeated
  repeated_end h = let e : count - done ≡ 0 = omega arith in rw e refl

-- A step again and again, made of a reader.
module _ {A : Type 0} (one : ℕ → Reader A) (next : A → ℕ) (file : List ℕ) (s : (least : ℕ) → Steady (one least)) where
  repeated_many : (k least at : ℕ) → repeated (stepped one next file) k at least ≡ scanned (many one next k least) file at
  unfolding repeated scanned many done stepped
  repeated_many zero least at = refl
  repeated_many (suc k) least at = turn (one least at (drop at file)) refl (λ p floor. repeated_many k floor p)
    where
      turn : (g : Got A) → one least at (drop at file) ≡ g → ((p floor : ℕ) → repeated (stepped one next file) k p floor ≡ scanned (many one next k floor) file p)
          → go_on (past next (one least at (drop at file))) (λ p floor. repeated (stepped one next file) k p floor) ≡ scanned (many one next (suc k) least) file at
      turn (form f) e rest = rw e (then_refused (one least) _ file at e)
      turn (got a p tail) e rest =
          let e' : one least at (drop at file) ≡ got a p (drop p file) = e ∙ ap (λ t. got a p t) ((s least).tail file at e) in
          rw e (rest p (next a) ∙ (then_last (many one next k (next a)) (λ l. a ∷ l) file p refl ∙ then_passed (one least) _ file at e'))

  -- a step that answers as the reader reads what the reader does
  pub many_read : {post : ℕ → ℕ → Result (ℕ × ℕ) Form → Type 0} {r : Result ℕ Form} (k at : ℕ)
      → ((step : Step) → IsStep post step → r ≡ repeated step k at 0) → IsStep post (stepped one next file) → r ≡ scanned (many one next k 0) file at
  many_read k at told says = told (stepped one next file) says ∙ repeated_many k 0 at

  counted_many : (least most from : ℕ) → counted_steps (stepped one next file) least most file from ≡ scanned (counted least most one next) file from
  unfolding counted_steps counted
  counted_many least most from = turn (count least most from (drop from file)) refl
    where
      turn : (g : Got ℕ) → count least most from (drop from file) ≡ g
          → as_often (count least most from (drop from file)) (λ k at. repeated (stepped one next file) k at 0) ≡ scanned (and_then (count least most) (λ k. many one next k 0)) file from
      turn (form f) e = rw e (then_refused (count least most) _ file from e)
      turn (got k at tail) e =
          let e' : count least most from (drop from file) ≡ got k at (drop at file) = e ∙ ap (λ t. got k at t) ((count_steady least most).tail file from e) in
          rw e (repeated_many k 0 at ∙ then_passed (count least most) _ file from e')

  pub counted_read : {post : ℕ → ℕ → Result (ℕ × ℕ) Form → Type 0} {r : Result ℕ Form} (least most from : ℕ)
      → ((step : Step) → IsStep post step → r ≡ counted_steps step least most file from) → IsStep post (stepped one next file) → r ≡ scanned (counted least most one next) file from
  counted_read least most from told says = told (stepped one next file) says ∙ counted_many least most from

-- The number of things is the byte there.
module _ (step : Step) (least most : ℕ) (file : List ℕ) (from : ℕ) {r : Result ℕ Form} (told : r ≡ scanned (count least most) file from) where
  pub steps_refused : {x : Result ℕ Form} {f : Form} → x ≡ Err f → r ≡ Err f → x ≡ counted_steps step least most file from
  unfolding counted_steps
  steps_refused e a = let w = refused (count least most) file from told a in rw (e, w) refl

  pub steps_passed : {p k : ℕ} → r ≡ Ok p → k ≡ get_or file from 0 → repeated step k p 0 ≡ counted_steps step least most file from
  unfolding counted_steps
  steps_passed a z =
      let w = passed (count least most) file from told (count_steady least most) a in
      let b = count_byte least most file from w.1 in
      rw (w.1, z, b.byte.value) refl

-- A release: its track, then the step of its point.
module _ (tracks : List Track) (least : ℕ) (file : List ℕ) (at : ℕ) {r : Result ℕ Form} (told : r ≡ scanned (number (below (length tracks)) 0) file at) where
  pub release_stop : {x : Result (ℕ × ℕ) Form} {f : Form} → x ≡ Err f → r ≡ Err f → x ≡ stepped (release tracks) after_release file at least
  unfolding stepped release and_then
  release_stop x e = let w = refused (number (below (length tracks)) 0) file at told e in rw (x, w) refl

  pub release_on : {x : Result (ℕ × ℕ) Form} {p : ℕ} → r ≡ Ok p → x ≡ stepped (number (is_point tracks)) above file p least → x ≡ stepped (release tracks) after_release file at least
  unfolding stepped release and_then done
  release_on {x} {p} e h =
      let w = passed (number (below (length tracks)) 0) file at told (number_steady _ _) e in
      rw w.1 (h ∙ go w.0 (number (is_point tracks) least p (drop p file)))
    where
      go : (from : ℕ) (g : Got ℕ) → past above g ≡ past after_release (follow g (λ point q rest. got (record { track = from; point = point }) q rest))
      go from (form f) = refl
      go from (got v q rest) = refl

-- An entry: the step of its track, then its clear list, whatever reads that.
module _ (tracks : ℕ) (list : Reader (List ℕ)) (least : ℕ) (file : List ℕ) (at : ℕ) {r : Result (ℕ × ℕ) Form} (told : r ≡ stepped (number (below tracks)) above file at least) where
  abbrev listed : ℕ → Reader Entry
  listed floor = and_then (number (below tracks) floor) (λ on. and_then list (λ clear. done (record { track = on; clear = clear })))

  pub listed_stop : {x : Result (ℕ × ℕ) Form} {f : Form} → x ≡ Err f → r ≡ Err f → x ≡ stepped listed after_entry file at least
  unfolding stepped and_then
  listed_stop x e = let w = step_form (number (below tracks)) above file least at told e in rw (x, w) refl

  module _ {p next : ℕ} (end : r ≡ Ok (p, next)) {l : Result ℕ Form} (list_told : l ≡ scanned list file p) where
    pub listed_refused : {x : Result (ℕ × ℕ) Form} {f : Form} → x ≡ Err f → l ≡ Err f → x ≡ stepped listed after_entry file at least
    unfolding stepped and_then
    listed_refused x e =
        let w = step_got (number (below tracks)) above file least at told (number_steady _ _) end in
        let v = refused list file p list_told e in
        rw (x, w.1, v) refl

    pub listed_passed : {q : ℕ} → l ≡ Ok q → Ok (q, next) ≡ stepped listed after_entry file at least
    unfolding stepped and_then done scanned
    listed_passed {q} e =
        let w = step_got (number (below tracks)) above file least at told (number_steady _ _) end in
        let next_told : ◌≡◌ {A = Result (ℕ × ℕ) Form} (Ok (q, next)) (Ok (q, above w.0)) = ap (λ (k : ℕ). Ok (q, k)) w.2 in
        next_told ∙ rw w.1 (go w.0 (list p (drop p file)) (sym e ∙ list_told))
      where
        go : (on : ℕ) (g : Got (List ℕ)) → Ok q ≡ seen g → Ok (q, above on) ≡ past after_entry (follow g (λ clear k rest. got (record { track = on; clear = clear }) k rest))
        go on (form x) z = never (cc)
        go on (got v k rest) z = let w : q ≡ k = cc in rw w refl

-- Loops that read, item by item: none are left; one is refused; one is passed, and the next may be no lower than it allows. The loop of today's code
-- goes by steps; these laws stand for one that is written otherwise.
module _ {A : Type 0} (one : ℕ → Reader A) (next : A → ℕ) (file : List ℕ) where
  pub many_none : {left : ℕ} (least at : ℕ) → left ≤ 0 → Ok at ≡ scanned (many one next left least) file at
  unfolding scanned many done
  many_none {left} least at h = let z : left ≡ 0 = omega arith in rw z

  many_turn : (left least : ℕ) → 0 < left → many one next left least ≡ and_then (one least) (λ a. and_then (many one next (left - 1) (next a)) (λ l. done (a ∷ l)))
  unfolding many
  many_turn zero least h = absurd (omega arith)
  many_turn (suc left) least h = rw (sub-one (suc left))

  pub many_refused : {left least at : ℕ} {f : Form} → 0 < left → one least at (drop at file) ≡ form f → Err f ≡ scanned (many one next left least) file at
  many_refused {left} {least} {at} h e = rw (many_turn left least h) (then_refused (one least) _ file at e)

  pub many_passed : {left least least' at p : ℕ} {a : A} → 0 < left → one least at (drop at file) ≡ got a p (drop p file) → least' ≡ next a
      → scanned (many one next (left - 1) least') file p ≡ scanned (many one next left least) file at
  many_passed {left} {least} {least'} {at} {p} {a} h e q =
      rw (many_turn left least h, q) (then_last (many one next (left - 1) (next a)) (λ l. a ∷ l) file p refl ∙ then_passed (one least) _ file at e)

module _ {A : Type 0} (one : ℕ → Reader A) (next : A → ℕ) (file : List ℕ) (least at : ℕ) {left : ℕ} (some : 0 < left) {r : Result ℕ Form} (told : r ≡ scanned (one least) file at) where
  pub item_refused : {f : Form} → r ≡ Err f → r ≡ scanned (many one next left least) file at
  item_refused e = e ∙ many_refused one next file some (refused (one least) file at told e)

  pub item_passed : {p least' : ℕ} → Steady (one least) → r ≡ Ok p → ((a : A) → one least at (drop at file) ≡ got a p (drop p file) → least' ≡ next a)
      → scanned (many one next (left - 1) least') file p ≡ scanned (many one next left least) file at
  item_passed s e q = let w = passed (one least) file at told s e in many_passed one next file some w.1 (q w.0 w.1)

-- An entry that was passed, whatever reads its list, has its track in its first byte, and the next one is above it.
pub listed_above : (tracks least : ℕ) (list : Reader (List ℕ)) (file : List ℕ) (at : ℕ) {a : Entry} {x p : ℕ} {rest : List ℕ} → x ≡ get_or file at 0
    → and_then (number (below tracks) least) (λ on. and_then list (λ clear. done (record { track = on; clear = clear }))) at (drop at file) ≡ got a p rest
    → (x + 1 ≡ after_entry a) × (at < length file)
unfolding and_then done
listed_above tracks least list file at {a} z e =
    follow_got (number (below tracks) least at (drop at file)) _ e λ on q mid h₁ e₁.
    let b = number_byte (below tracks) least file at h₁ in
    follow_got (list q mid) _ e₁ λ clear q₂ mid₂ h₂ e₂.
    let w : record { track = on; clear = clear } ≡ a = cc in
    (rw (z, ← b.value) (ap after_entry w), b.within)

pub entry_above : (tracks least : ℕ) (file : List ℕ) (at : ℕ) {a : Entry} {x p : ℕ} {rest : List ℕ}
    → x ≡ get_or file at 0 → entry tracks least at (drop at file) ≡ got a p rest → (x + 1 ≡ after_entry a) × (at < length file)
unfolding entry
entry_above tracks least file at z e = listed_above tracks least _ file at z e
