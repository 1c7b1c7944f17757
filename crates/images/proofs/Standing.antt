-- An image stands exactly if some plan that a file can hold has it. On the way there, the sections that were passed are what the image shows.
use mathlib.Core.Path.{◌≡◌, refl, ap, ◌∙◌}
use mathlib.Core.Bool.{true}
use mathlib.Core.List.{List, [], ◌∷◌, ◌++◌, append-nil}
use Prim.Native.Nat.{ℕ, ◌+◌, ◌*◌}
use native.Mathlib.Omega.{arith}
use lib.ListN.{length, drop, length-append}
use Rattle.laws.specs.Tests.{Is, clash}
use Rattle.plan.specs.declared.Track.{Track}
use Rattle.plan.specs.Limits.{most_tracks, most_signals, track_size, tracks_at, signals_at, image_size}
use Rattle.plan.specs.Records.{Plan}
use Rattle.plan.specs.File.{track_file, counted_file, Readable}
use Rattle.plan.specs.Image.{image_of, plan_of}
use Rattle.plan.proofs.Shown.{track_slot, signal_slot, tracks_shown, signals_shown, plan_shown, image_long}
use Rattle.reading.specs.Reading.{Got, form, got, rising_list, track_section, scanned, seen}
use Rattle.reading.proofs.Sound.{sound_got}
use Rattle.images.specs.Images.{roomy, list_room, rooms, passes, standing}
use Rattle.images.proofs.Roomy.{track_rooms_sound, rising_room_sound, rooms_sound}

-- What the image shows of the tracks and of the signals, once their rooms were passed.
module _ (image : List ℕ) {tracks : List Track} {q : ℕ} {rest : List ℕ}
    (e : roomy (1 + track_size * most_tracks) (counted_file track_file) track_section tracks_at (drop tracks_at image) ≡ got tracks q rest) where
  pub tracks_known : (plan_of image).tracks ≡ tracks
  unfolding plan_of
  tracks_known =
      let (ok, there) = sound_got track_rooms_sound tracks_at image e in
      rw there (tracks_shown tracks ok.few rest)

  pub signals_known : {signals : List ℕ} {q₂ : ℕ} {rest₂ : List ℕ} → rest ≡ drop signals_at image
      → list_room most_signals (rising_list (length tracks) most_signals) signals_at (drop signals_at image) ≡ got signals q₂ rest₂ → (plan_of image).signals ≡ signals
  unfolding plan_of
  signals_known {signals} {q₂} {rest₂} t e₂ =
      let (ok, there) = sound_got track_rooms_sound tracks_at image e in
      let (ok₂, there₂) = sound_got (rising_room_sound (length tracks) most_signals) signals_at (drop signals_at image) e₂ in
      let z : image ≡ track_slot tracks ++ (signal_slot signals ++ rest₂) = there ∙ ap (λ l. track_slot tracks ++ l) (t ∙ there₂) in
      rw z (signals_shown tracks ok.few signals ok₂.0.few rest₂)

-- The whole image.

nothing_after : (l rest : List ℕ) {n : ℕ} → length l ≡ n → length (l ++ rest) ≡ n → rest ≡ []
nothing_after l [] h k = refl
nothing_after l (b ∷ rest) h k = absurd (omega (arith, h, k, length-append l (b ∷ rest)))

-- It is some plan's, which is the one that it shows.
pub stands_for : (image : List ℕ) → length image ≡ image_size → Is (standing image) → Readable (plan_of image) × (image_of (plan_of image) ≡ image)
unfolding standing scanned
stands_for image long e = go (rooms tracks_at image) refl e
  where
    go : (g : Got Plan) → rooms tracks_at image ≡ g → passes (seen g) ≡ true → Readable (plan_of image) × (image_of (plan_of image) ≡ image)
    go (form f) w h = clash h refl
    go (got p at rest) w h =
        let (ok, there) = sound_got rooms_sound tracks_at image w in
        let none = nothing_after (image_of p) rest (image_long p ok) (rw there at long) in
        let z : image ≡ image_of p = there ∙ ap (λ l. image_of p ++ l) none ∙ append-nil (image_of p) in
        rw (z, plan_shown p ok) (ok, refl)

-- And the image of every plan that a file can hold stands.
pub plan_stands : (p : Plan) → Readable p → Is (standing (image_of p))
unfolding standing scanned
plan_stands p ok = let e = rw append-nil at (rooms_sound.forth p ok tracks_at []) in rw e
