-- The whole of reading in the steps that the code takes: a section is scanned, then stored, and what is stored tells the next one its counts
-- and kinds. Assumes nothing.
use Rattle.std.specs.Prelude.{Err, Ok, Result}
use mathlib.Core.Path.{◌≡◌, refl, sym, ap, ◌∙◌}
use mathlib.Core.List.{List, ◌++◌}
use Prim.Native.Nat.{ℕ, ◌≤◌, ◌<◌}
use lib.ListN.{length, drop, drop_of_length-le}
use lib.Seq.{drop-cons}
use Rattle.laws.specs.Tests.{never}
use Rattle.plan.specs.declared.Track.{Track}
use Rattle.plan.specs.Limits.{most_tracks, most_signals, most_routes, most_entries, track_size, tracks_at, signals_at}
use Rattle.plan.specs.Records.{Route, Entry, Plan}
use Rattle.plan.specs.File.{counted_file, list_file, route_file, entry_file, Within, ReadableRoute, ReadableEntry}
use Rattle.plan.specs.Image.{image_of, plan_of}
use Rattle.plan.proofs.Shown.{tracks_shown, signals_shown}
use Rattle.reading.specs.declared.Form.{Form}
use Rattle.reading.specs.declared.Form.TheVariants.{LeftOver}
use Rattle.reading.specs.Reading.{Got, form, got, nothing_left, rising_list, track_section, signal_section, route_section, entry_section, sections, parse, seen, scanned, and_then, done}
use Rattle.reading.proofs.Sound.{sound_got}
use Rattle.reading.proofs.Sections.{track_section_sound, rising_list_sound, route_section_sound, entry_section_sound}
use Rattle.reading.proofs.Scanned.{passed, then_stop, then_passed, then_last, tracks_steady, rising_steady, routes_steady, entries_steady}
use Rattle.loading.specs.Storing.{after_reading, copy_list, copy_routes, copy_entries, ListRoom, RoutesRoom, EntriesRoom}
use Rattle.loading.proofs.Stored as stored

-- What the image shows after the tracks, and after the signals.

shows_tracks : (tracks : List Track) → length tracks ≤ most_tracks → (plan_of (stored.with_tracks tracks)).tracks ≡ tracks
unfolding plan_of stored.with_tracks
shows_tracks tracks few = tracks_shown tracks few _

shows_both : (tracks : List Track) (signals : List ℕ) → length tracks ≤ most_tracks → length signals ≤ most_signals →
    ((plan_of (stored.with_signals tracks signals)).tracks ≡ tracks) × ((plan_of (stored.with_signals tracks signals)).signals ≡ signals)
unfolding plan_of stored.with_signals
shows_both tracks signals few few' = (tracks_shown tracks few _, signals_shown tracks few signals few' _)

-- The tracks were read, then the signals, the routes, the entries: what is known, and what the next step needs.

pub record Tracks (file : List ℕ) (p : ℕ) (image : List ℕ) : Type 0 where
  pub tracks : List Track
  pub reads : track_section 0 (drop 0 file) ≡ got tracks p (drop p file)
  pub few : length tracks ≤ most_tracks
  pub holds : image ≡ stored.with_tracks tracks

pub record Signals (file : List ℕ) (p q : ℕ) (image : List ℕ) : Type 0 where
  pub tracks : List Track
  pub signals : List ℕ
  pub tracks_read : track_section 0 (drop 0 file) ≡ got tracks p (drop p file)
  pub reads : signal_section tracks p (drop p file) ≡ got signals q (drop q file)
  pub few_tracks : length tracks ≤ most_tracks
  pub few : length signals ≤ most_signals
  pub holds : image ≡ stored.with_signals tracks signals

module _ (file : List ℕ) where
  -- a refusal of what was read in part is the file's, and leaves the memory
  pub refuses : {x r : Result ℕ Form} {f : Form} (old : List ℕ) → x ≡ Err f → r ≡ Err f → r ≡ scanned sections file 0 → (x ≡ seen (parse file)) × (old ≡ after_reading (parse file) old)
  unfolding scanned parse after_reading
  refuses {x} {f} old same e told = go (sections 0 file) (sym e ∙ told)
    where
      go : (g : Got Plan) → Err f ≡ seen g → (x ≡ seen (nothing_left g)) × (old ≡ after_reading (nothing_left g) old)
      go (form y) z = (same ∙ z, refl)
      go (got a at rest) z = never (cc)

  -- 1. Tracks.

  module _ {r : Result ℕ Form} (told : r ≡ scanned track_section file 0) where
    pub tracks_refused : {f : Form} → r ≡ Err f → r ≡ scanned sections file 0
    unfolding sections
    tracks_refused e = then_stop track_section _ file 0 told e

    module _ {p : ℕ} (e : r ≡ Ok p) where
      read : (tracks : List Track) × (track_section 0 (drop 0 file) ≡ got tracks p (drop p file))
      read = passed track_section file 0 told tracks_steady e

      pub tracks_room : ListRoom track_size file 0 tracks_at
      tracks_room = let s = sound_got track_section_sound 0 (drop 0 file) read.1 in stored.tracks_room read.0 s.0.few file 0 (drop p file) s.1

      pub tracks_read_lem : {image : List ℕ} → image ≡ copy_list track_size file 0 tracks_at stored.empty_image → Tracks file p image
      tracks_read_lem z =
          let s = sound_got track_section_sound 0 (drop 0 file) read.1 in
          record { tracks = read.0; reads = read.1; few = s.0.few; holds = z ∙ stored.tracks_stored read.0 s.0.few file 0 (drop p file) s.1 }

  -- 2. Signals.

  module _ {p : ℕ} {image : List ℕ} (t : Tracks file p image) {r : Result ℕ Form} {n : ℕ} (z : n ≡ length (plan_of image).tracks) (found : r ≡ scanned (rising_list n most_signals) file p) where
    signals_told : r ≡ scanned (signal_section t.tracks) file p
    unfolding signal_section
    signals_told =
        let k : n ≡ length t.tracks = z ∙ ap (λ (i : List ℕ). length (plan_of i).tracks) t.holds ∙ ap length (shows_tracks t.tracks t.few) in
        rw k at found

    pub signals_refused : {f : Form} → r ≡ Err f → r ≡ scanned sections file 0
    unfolding sections
    signals_refused e = then_stop (signal_section t.tracks) _ file p signals_told e ∙ then_passed track_section _ file 0 t.reads

    module _ {q : ℕ} (e : r ≡ Ok q) where
      signals_here : (signals : List ℕ) × (signal_section t.tracks p (drop p file) ≡ got signals q (drop q file))
          × (length signals ≤ most_signals) × (drop p file ≡ list_file signals ++ drop q file)
      unfolding signal_section
      signals_here =
          let w = passed (signal_section t.tracks) file p signals_told (rising_steady (length t.tracks) most_signals) e in
          let s = sound_got (rising_list_sound (length t.tracks) most_signals) p (drop p file) w.1 in
          (w.0, w.1, s.0.0.few, s.1)

      pub signals_room : ListRoom 1 file p signals_at
      signals_room = let w = signals_here in stored.signals_room w.0 w.2 file p (drop q file) w.3

      pub signals_read : {image' : List ℕ} → image' ≡ copy_list 1 file p signals_at image → Signals file p q image'
      signals_read y = let w = signals_here in record {
        tracks = t.tracks;
        signals = w.0;
        tracks_read = t.reads;
        reads = w.1;
        few_tracks = t.few;
        few = w.2;
        holds = y ∙ ap (copy_list 1 file p signals_at) t.holds ∙ stored.signals_stored w.0 w.2 file p (drop q file) w.3 t.tracks t.few;
      }

  -- 3. Routes.

  module _ {p q : ℕ} {image : List ℕ} (t : Signals file p q image) where
    shown_tracks : (plan_of image).tracks ≡ t.tracks
    shown_tracks = ap (λ (i : List ℕ). (plan_of i).tracks) t.holds ∙ (shows_both t.tracks t.signals t.few_tracks t.few).0

    shown_signals : (plan_of image).signals ≡ t.signals
    shown_signals = ap (λ (i : List ℕ). (plan_of i).signals) t.holds ∙ (shows_both t.tracks t.signals t.few_tracks t.few).1

    module _ {r : Result ℕ Form} (found : r ≡ scanned (route_section (plan_of image).tracks (length (plan_of image).signals)) file q) where
      routes_told : r ≡ scanned (route_section t.tracks (length t.signals)) file q
      routes_told = rw (shown_tracks, shown_signals) at found

      pub routes_refused : {f : Form} → r ≡ Err f → r ≡ scanned sections file 0
      unfolding sections
      routes_refused e =
          then_stop (route_section t.tracks (length t.signals)) _ file q routes_told e ∙ then_passed (signal_section t.tracks) _ file p t.reads
          ∙ then_passed track_section _ file 0 t.tracks_read

      module _ {u : ℕ} (e : r ≡ Ok u) where
        routes_here : (routes : List Route) × (route_section t.tracks (length t.signals) q (drop q file) ≡ got routes u (drop u file))
            × Within 0 most_routes (ReadableRoute t.tracks (length t.signals)) routes × (drop q file ≡ counted_file route_file routes ++ drop u file)
        routes_here =
            let w = passed (route_section t.tracks (length t.signals)) file q routes_told (routes_steady t.tracks (length t.signals)) e in
            let s = sound_got (route_section_sound t.tracks (length t.signals)) q (drop q file) w.1 in
            (w.0, w.1, s.0, s.1)

        pub routes_room : RoutesRoom file q
        routes_room = let w = routes_here in stored.routes_room t.tracks t.signals w.0 w.2 file q (drop u file) w.3

        -- 4. Entries, and the end.

        module _ {n : ℕ} (z : n ≡ length (plan_of image).tracks) {a : Result ℕ Form} (last : a ≡ scanned (entry_section n) file u) where
          entries_told : a ≡ scanned (entry_section (length t.tracks)) file u
          entries_told = let k : n ≡ length t.tracks = z ∙ ap length shown_tracks in rw k at last

          pub entries_answer : a ≡ scanned sections file 0
          unfolding sections
          entries_answer =
              then_last (entry_section (length t.tracks)) _ file u entries_told ∙ then_passed (route_section t.tracks (length t.signals)) _ file q routes_here.1
              ∙ then_passed (signal_section t.tracks) _ file p t.reads ∙ then_passed track_section _ file 0 t.tracks_read

          module _ {v : ℕ} (e' : a ≡ Ok v) where
            entries_here : (entries : List Entry) × (entry_section (length t.tracks) u (drop u file) ≡ got entries v (drop v file))
                × Within 0 most_entries (ReadableEntry (length t.tracks)) entries × (drop u file ≡ counted_file entry_file entries ++ drop v file)
            entries_here =
                let w = passed (entry_section (length t.tracks)) file u entries_told (entries_steady (length t.tracks)) e' in
                let s = sound_got (entry_section_sound (length t.tracks)) u (drop u file) w.1 in
                (w.0, w.1, s.0.0, s.1)

            pub entries_room : EntriesRoom file u
            entries_room = let w = entries_here in stored.entries_room t.tracks w.0 w.2 file u (drop v file) w.3

            plan : Plan
            plan = record { tracks = t.tracks; signals = t.signals; routes = routes_here.0; entries = entries_here.0 }

            all_read : sections 0 file ≡ got plan v (drop v file)
            unfolding sections and_then done plan
            all_read = rw (t.tracks_read, t.reads, routes_here.1, entries_here.1)

            pub left_over_lem : (old : List ℕ) → v < length file → (Err (LeftOver v) ≡ seen (parse file)) × (old ≡ after_reading (parse file) old)
            unfolding parse after_reading
            left_over_lem old h = rw (all_read, drop-cons file v 0 h) (refl, refl)

            -- what is stored at last is the plan's image
            pub whole : (old : List ℕ) {image₃ image₄ : List ℕ} → length file ≤ v → image₃ ≡ copy_routes file q image → image₄ ≡ copy_entries file u image₃ →
                (Ok v ≡ seen (parse file)) × (image₄ ≡ after_reading (parse file) old)
            unfolding parse after_reading plan
            whole old {image₃} {image₄} h y₃ y₄ =
                let rs = routes_here in
                let es = entries_here in
                let s₃ : image₃ ≡ stored.with_routes t.tracks t.signals rs.0 =
                y₃ ∙ ap (copy_routes file q) t.holds ∙ stored.routes_stored t.tracks t.signals rs.0 rs.2 file q (drop u file) rs.3 t.few_tracks t.few in
                let s₄ : image₄ ≡ image_of plan =
                y₄ ∙ ap (copy_entries file u) s₃ ∙ stored.entries_stored t.tracks es.0 es.2 file u (drop v file) es.3 t.signals rs.0 t.few_tracks t.few rs.2 in
                rw (all_read, drop_of_length-le file h) (refl, s₄)
