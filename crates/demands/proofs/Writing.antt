-- A plan in memory has one file or none, and whoever writes it as the page says can't choose: what was read comes back, and what is read back is what was
-- given. Assumes nothing.
use Rattle.std.specs.Prelude.{Err, Ok, Result}
use mathlib.Core.Path.{◌≡◌, refl, sym, ap, ◌∙◌}
use mathlib.Core.Logic.{◌≢◌, ◌⊎◌, inl, inr, ◌↔◌}
use mathlib.Core.List.{List, [], ◌++◌}
use Prim.Native.Nat.{ℕ, ◌+◌, ◌-◌, ◌<◌, ◌≤◌}
use native.Mathlib.Omega.{arith}
use lib.ListN.{length, get_or, take, drop}
use lib.Seq.{take-append_seam, get_or-append-add, get_or-drop}
use borrow.Author.Tests.{lt-ltb, le-ltb}
use Rattle.laws.specs.Tests.{Is, split, below?, never, clash}
use Rattle.plan.specs.Limits.{image_size}
use Rattle.plan.specs.Records.{Plan}
use Rattle.plan.specs.File.{file_of, Readable}
use Rattle.plan.specs.Image.{image_of, plan_of}
use Rattle.plan.proofs.Shown.{plan_shown}
use Rattle.reading.specs.Reading.{Got, got, parse}
use Rattle.reading.proofs.Meaning.{reads_readable}
use Rattle.images.specs.Images.{standing}
use Rattle.images.proofs.Standing.{stands_for, plan_stands}
use Rattle.writing.specs.declared.Unwritten.{Unwritten}
use Rattle.writing.specs.declared.Unwritten.TheVariants.{NoFile, NoRoom}
use Rattle.writing.specs.Writing.{file_in, written, after_writing}
use Rattle.writing.proofs.Answers.{Outcome, unread, short, full, outcome}
use Rattle.demands.specs.Demands.{Reads, ReadsAs, Writer, Writes, OneWriting, RoundTrip}
use Rattle.demands.specs.Ours.{our_writer}
use Rattle.demands.proofs.Verdicts.{parse_reads, reads_as_parse}
use Rattle.demands.proofs.Small.{small, bare_reads}

-- What a reader that meets demand 2 gives is a plan that a file can hold, and the file is its own.
got_readable : (read : List ℕ → Got Plan) → Reads read → (file : List ℕ) {p : Plan} {at : ℕ} {rest : List ℕ} → read file ≡ got p at rest → (file ≡ file_of p) × Readable p
got_readable read d file e = let x = reads_readable file (sym (reads_as_parse read d file) ∙ e) in (x.0, x.1)

-- What a file that reads as an image tells of it.
record Known (image file : List ℕ) : Type 0 where
  stands : Is (standing image)
  readable : Readable (plan_of image)
  back : image_of (plan_of image) ≡ image
  own : file ≡ file_of (plan_of image)

-- A file that reads as an image, and whether there is one.
module _ (read : List ℕ → Got Plan) (d : Reads read) where
  known : (image file : List ℕ) → ReadsAs read file image → Known image file
  known image file (p, e, z) =
      let (own, ok) = got_readable read d file e in
      let shown : plan_of image ≡ p = ap plan_of (sym z) ∙ plan_shown p ok in
      record {
        stands = rw (← z) (plan_stands p ok);
        readable = rw shown ok;
        back = ap image_of shown ∙ z;
        own = own ∙ ap file_of (sym shown);
      }

  reads_it : (image : List ℕ) → length image ≡ image_size → Is (standing image) → ReadsAs read (file_of (plan_of image)) image
  reads_it image long y = let (ok, z) = stands_for image long y in (plan_of image, d.plans (plan_of image) ok, z)

  either : (image : List ℕ) → length image ≡ image_size → ReadsAs read (file_of (plan_of image)) image ⊎ ((file : List ℕ) → ReadsAs read file image → ⊥)
  either image long = elim (split (standing image)) [
    | inl y ↦ inl (reads_it image long y)
    | inr n ↦ inr (λ file r. clash (known image file r).stands n)
  ]

  -- Of any writer that meets demand 2: where it has written, there is a file that reads as the image, and this is what is written.
  module _ (writer : Writer) (w : Writes read writer) where
    has_written : (image out : List ℕ) (size : ℕ) → length image ≡ image_size → writer.answer image out ≡ Ok size
        → Known image (take size (writer.leaves image out)) × (read (take size (writer.leaves image out)) ≡ got (plan_of image) size [])
    has_written image out size long e = elim (either image long) [
      | inl r ↦ elim (below? (length out) (length (file_of (plan_of image)))) [
        | inl h ↦ never (let z = (w.short image out (file_of (plan_of image)) r).1 h in cc)
        | inr h ↦ found r (w.whole image out (file_of (plan_of image)) r h)
      ]
      | inr n ↦ never (let z = (w.none image out long).1 n in cc)
    ]
      where
        file : List ℕ
        file = file_of (plan_of image)

        found : ReadsAs read file image → (writer.answer image out ≡ Ok (length file)) × (writer.leaves image out ≡ file ++ drop (length file) out)
            → Known image (take size (writer.leaves image out)) × (read (take size (writer.leaves image out)) ≡ got (plan_of image) size [])
        found r (a, l) =
            let same : length file ≡ size = cc in
            let front : take size (writer.leaves image out) ≡ file = rw (l, ← same) (take-append_seam file (drop (length file) out)) in
            let k = known image file r in
            rw (front, ← same) (k, d.plans (plan_of image) k.readable)

    pub round_trip : RoundTrip read writer
    round_trip = record {
      again = λ image out size long e. (let (k, r) = has_written image out size long e in (r, k.back));
      back = λ file out {p} e h. given file out (got_readable read d file e) h;
      readable = λ image out size long e. (let k = (has_written image out size long e).0 in (k.readable, k.own));
    }
      where
        given : (file out : List ℕ) {p : Plan} → (file ≡ file_of p) × Readable p → length file ≤ length out
            → (writer.answer (image_of p) out ≡ Ok (length file)) × (take (length file) (writer.leaves (image_of p) out) ≡ file)
        given file out {p} (own, ok) h =
            let r : ReadsAs read file (image_of p) = (p, rw own (d.plans p ok), refl) in
            let (a, l) = w.whole (image_of p) out file r h in
            (a, rw l (take-append_seam file (drop (length file) out)))

-- Two writers do the same.
pub one_writing : OneWriting
one_writing read writer other d w o image out long = elim (either read d image long) [
  | inl r ↦ elim (below? (length out) (length (file_of (plan_of image)))) [
    | inl h ↦ refused NoRoom ((w.short image out _ r).1 h) ((o.short image out _ r).1 h)
    | inr h ↦ (let x = w.whole image out _ r h in let y = o.whole image out _ r h in (x.0 ∙ sym y.0, x.1 ∙ sym y.1))
  ]
  | inr n ↦ refused NoFile ((w.none image out long).1 n) ((o.none image out long).1 n)
]
  where
    refused : (why : Unwritten) → writer.answer image out ≡ Err why → other.answer image out ≡ Err why
        → (writer.answer image out ≡ other.answer image out) × (writer.leaves image out ≡ other.leaves image out)
    refused why a b = (a ∙ sym b, w.kept image out why long a ∙ sym (o.kept image out why long b))

-- Ours meets it.

none_exactly : (image out : List ℕ) → length image ≡ image_size → (written image (length out) ≡ Err NoFile) ↔ ((file : List ℕ) → ReadsAs parse file image → ⊥)
unfolding written
none_exactly image out long = (λ e file r. go (outcome image (length out)) e (known parse parse_reads image file r).stands, back)
  where
    go : {x : Result ℕ Unwritten} → Outcome image (length out) x → x ≡ Err NoFile → Is (standing image) → ⊥
    go (unread n) z y = clash y n
    go (short y h) z k = never (cc)
    go (full y h) z k = never (cc)

    back : ((file : List ℕ) → ReadsAs parse file image → ⊥) → written image (length out) ≡ Err NoFile
    back n = elim (split (standing image)) [ inl y ↦ absurd (n _ (reads_it parse parse_reads image long y)) | inr f ↦ rw f ]

pub our_writes : Writes parse our_writer
unfolding written after_writing file_in
our_writes = record {
  none = none_exactly;
  short = λ image out file r. (let k = known parse parse_reads image file r in short_exactly image out file k.stands k.own);
  whole = λ image out file r h. (let k = known parse parse_reads image file r in
      rw (k.stands, ← k.own, le-ltb (length out) (length file) h) (refl, ap (λ (l : List ℕ). l ++ drop (length l) out) (sym k.own)));
  kept = λ image out why long e. rw e;
}
  where
    short_exactly : (image out file : List ℕ) → Is (standing image) → file ≡ file_of (plan_of image) → (written image (length out) ≡ Err NoRoom) ↔ (length out < length file)
    short_exactly image out file y own = (λ e. rw own (go (outcome image (length out)) e), λ h. rw (y, ← own, lt-ltb (length out) (length file) h))
      where
        go : {x : Result ℕ Unwritten} → Outcome image (length out) x → x ≡ Err NoRoom → length out < length (file_of (plan_of image))
        go (unread n) z = clash y n
        go (short k h) z = h
        go (full k h) z = never (cc)

-- Writers that would pass for one.

pub refuses_all : (read : List ℕ → Got Plan) → Reads read → (writer : Writer) → ((image out : List ℕ) → (why : Unwritten) × (writer.answer image out ≡ Err why))
    → Writes read writer → ⊥
refuses_all read d writer all w =
    let p = small [] in
    let image = image_of p in
    let file = file_of p in
    let (why, e) = all image file in
    never (let z = (w.whole image file file (p, d.plans p bare_reads, refl) (omega arith)).0 in cc)

pub writes_past : (read : List ℕ → Got Plan) (writer : Writer) (image out file : List ℕ) (i : ℕ) → ReadsAs read file image → length file ≤ i
    → length file ≤ length out → get_or (writer.leaves image out) i 0 ≢ get_or out i 0 → Writes read writer → ⊥
writes_past read writer image out file i r past h n w =
    let e : length file + (i - length file) ≡ i = omega arith in
    let same : get_or (file ++ drop (length file) out) (length file + (i - length file)) 0 ≡ get_or out (length file + (i - length file)) 0 =
    get_or-append-add file (drop (length file) out) (i - length file) 0 ∙ get_or-drop (length file) out (i - length file) 0 in
    n (rw (w.whole image out file r h).1 (rw e at same))
