-- The bytes of a row are computed, and a track's kind decides its tests. Assumes nothing.
use mathlib.Core.Path.{refl}
use Rattle.plan.specs.declared.Track.{Track}
use Rattle.plan.specs.Kinds.{forks, out, leg}
use Rattle.plan.specs.declared.Release.{Release}
use Rattle.plan.specs.Records.{Route, Entry}
use Rattle.plan.specs.File.{track_file, release_file, list_file, counted_file, route_file, entry_file}
use Rattle.forms.specs.Rows.{TrackRow, ReleaseRow, RouteRow, EntryRow}

pub track_row_lem : (t : Track) → TrackRow t
unfolding track_file forks out leg
track_row_lem t = record {
  four = refl;
  plain = (λ e. e, λ e. e);
  facing = (λ e. e, λ e. e);
  trailing = (λ e. e, λ e. e);
  exit = (λ e. e, λ e. e);
  plain_next = λ e lie. rw e refl;
  normal_way = λ e. rw e refl;
  reverse_way = λ e. rw e refl;
  trailing_next = λ e lie. rw e refl;
  normal_leg = λ e. refl;
  reverse_leg = λ e. refl;
}

pub release_row_lem : (q : Release) → ReleaseRow q
unfolding release_file
release_row_lem q = record { pair = refl }

pub route_row_lem : (r : Route) → RouteRow r
unfolding route_file list_file counted_file
route_row_lem r = record { start = refl; lists = refl }

pub entry_row_lem : (e : Entry) → EntryRow e
unfolding entry_file list_file
entry_row_lem e = record { track = refl; list = refl }
