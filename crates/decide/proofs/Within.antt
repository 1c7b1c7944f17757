-- What a test finds is there: the signal at a track's end, the track that a train stands on, and the one that it goes to.
use Rattle.std.specs.Prelude.{Some}
use mathlib.Core.Path.{◌≡◌}
use mathlib.Core.Bool.{false}
use mathlib.Core.List.{List}
use Prim.Native.Nat.{ℕ, ◌<◌}
use native.Mathlib.Omega.{arith}
use lib.ListN.{length}
use lib.Dec.{eqb}
use Rattle.laws.specs.Tests.{clash}
use Rattle.laws.specs.Search.{lowest_at}
use Rattle.plan.specs.Kinds.{exit}
use Rattle.plan.specs.Records.{Plan, home_of, track_of}
use Rattle.plan.specs.Layout.{signal_at}
use Rattle.plan.specs.File.{Readable}
use Rattle.plan.specs.Limits.{most_signals}
use Rattle.plan.specs.Image.{plan_of}
use Rattle.plan.proofs.Says.{exit_is}
use Rattle.plan.proofs.View.{signals_most}
use Rattle.events.specs.Decide.{is_reverse, stands, front_of, way_out}
use Rattle.events.proofs.Facts.{out_below}

signal_within : (p : Plan) (u : ℕ) {s : ℕ} → signal_at p u ≡ Some s → s < length p.signals
unfolding signal_at
signal_within p u e = (lowest_at (length p.signals) (λ s. eqb (home_of p s) u) e).below

pub signal_few : (image : List ℕ) (u : ℕ) {s : ℕ} → signal_at (plan_of image) u ≡ Some s → s < most_signals
signal_few image u e = omega (arith, signal_within (plan_of image) u e, signals_most image)

pub next_within : {p : Plan} → Readable p → {u : ℕ} → u < length p.tracks → exit (track_of p u) ≡ false → (lies : List ℕ) → way_out p lies u < length p.tracks
unfolding way_out
next_within {p} w {u} h x lies = out_below p w u (is_reverse lies u) h (λ e. clash ((exit_is (track_of p u)).1 e) x)

pub front_within : (p : Plan) (trains : List ℕ) (train : ℕ) {u : ℕ} → front_of p trains train ≡ Some u → u < length p.tracks
unfolding front_of
front_within p trains train e = (lowest_at (length p.tracks) (stands trains train) e).below
