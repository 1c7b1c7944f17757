-- The plan file: the plans that a file can hold, and the file of a plan as document 01 lays it out.
use Rattle.std.specs.Prelude.{ℕ, ◌+◌, ◌<◌, ◌≤◌, List, [], ◌∷◌, ◌++◌, map, length, get_or}
use Rattle.laws.specs.Tests.{Is}
use Rattle.laws.specs.Lists.{All, joined}
use Rattle.plan.specs.declared.Track.{Track}
use Rattle.plan.specs.declared.Release.{Release}
use Rattle.plan.specs.Limits.{least_tracks, most_tracks, most_signals, most_routes, most_entries, least_path, most_path, most_clear, most_points, most_releases}
use Rattle.plan.specs.Kinds.{kinds, is_point, limit_of}
use Rattle.plan.specs.Records.{Route, Entry, Plan}

-- The file of a plan.

unfoldable pub track_file : Track → List ℕ
track_file t = t.kind ∷ t.first ∷ t.second ∷ t.third ∷ []

unfoldable pub release_file : Release → List ℕ
release_file r = r.track ∷ r.point ∷ []

-- things after their count
unfoldable pub counted_file : {A : Type 0} → (A → List ℕ) → List A → List ℕ
counted_file file l = length l ∷ joined file l

unfoldable pub list_file : List ℕ → List ℕ
list_file l = length l ∷ l

unfoldable pub route_file : Route → List ℕ
route_file r =
    r.start ∷ (list_file r.path ++ (list_file r.clear ++ (list_file r.normal ++ (list_file r.reverse ++ counted_file release_file r.releases))))

unfoldable pub entry_file : Entry → List ℕ
entry_file e = e.track ∷ list_file e.clear

unfoldable pub file_of : Plan → List ℕ
file_of p =
    counted_file track_file p.tracks ++ (list_file p.signals ++ (counted_file route_file p.routes ++ counted_file entry_file p.entries))

-- The plans that a file can hold.

-- each number of a list but the first is above its forerunner
abbrev pub Rises : List ℕ → Type 0
Rises l = (i : ℕ) → i + 1 < length l → get_or l i 0 < get_or l (i + 1) 0

-- at least so many, at most so many, and each is so
pub record Within {A : Type 0} (least most : ℕ) (ok : A → Type 0) (l : List A) : Type 0 where
  pub enough : least ≤ length l
  pub few : length l ≤ most
  pub each : All ok l

-- the kind is one of those that there are; a number that the kind uses names a track, one that it doesn't use is 0
pub record ReadableTrack (tracks : ℕ) (t : Track) : Type 0 where
  pub kind : t.kind < kinds
  pub first : t.first < limit_of tracks t.kind 0
  pub second : t.second < limit_of tracks t.kind 1
  pub third : t.third < limit_of tracks t.kind 2

pub record ReadableRelease (tracks : List Track) (r : Release) : Type 0 where
  pub track : r.track < length tracks
  pub point : Is (is_point tracks r.point)

pub record ReadableRoute (tracks : List Track) (signals : ℕ) (r : Route) : Type 0 where
  pub start : r.start < signals
  pub path : Within least_path most_path (λ u. u < length tracks) r.path
  pub clear : Within 0 most_clear (λ u. u < length tracks) r.clear
  pub clear_rises : Rises r.clear
  pub normal : Within 0 most_points (λ p. Is (is_point tracks p)) r.normal
  pub normal_rises : Rises r.normal
  pub reverse : Within 0 most_points (λ p. Is (is_point tracks p)) r.reverse
  pub reverse_rises : Rises r.reverse
  pub releases : Within 0 most_releases (ReadableRelease tracks) r.releases
  pub releases_rise : Rises (map (λ q. q.point) r.releases)

pub record ReadableEntry (tracks : ℕ) (e : Entry) : Type 0 where
  pub track : e.track < tracks
  pub clear : Within 0 most_clear (λ u. u < tracks) e.clear
  pub clear_rises : Rises e.clear

pub record Readable (p : Plan) : Type 0 where
  pub tracks : Within least_tracks most_tracks (ReadableTrack (length p.tracks)) p.tracks
  pub signals : Within 0 most_signals (λ u. u < length p.tracks) p.signals
  pub signals_rise : Rises p.signals
  pub routes : Within 0 most_routes (ReadableRoute p.tracks (length p.signals)) p.routes
  pub entries : Within 0 most_entries (ReadableEntry (length p.tracks)) p.entries
  pub entries_rise : Rises (map (λ e. e.track) p.entries)
