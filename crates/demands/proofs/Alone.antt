-- A plan with one facing point and nobody to turn it: from the fresh state, and from the one in which it lies reverse, no events lead anywhere else.
-- Shown of our box, so that a session that begins anew can be told from one that goes on.
use mathlib.Core.Path.{◌≡◌, refl, sym, ap, ◌∙◌}
use mathlib.Core.Bool.{true}
use mathlib.Core.Logic.{◌≢◌}
use mathlib.Core.List.{List, [], ◌∷◌}
use Prim.Native.Nat.{ℕ}
use native.Mathlib.Omega.{arith}
use lib.ListN.{get_or, set}
use Rattle.laws.specs.Lists.{empty_from}
use Rattle.laws.specs.Search.{all_below}
use Rattle.plan.specs.Kinds.{facing_kind, forks, point, is_point, uses, limit_of}
use Rattle.plan.specs.Records.{Plan}
use Rattle.reading.specs.Reading.{got, and_then, done, number, count, many, counted, rising_list, track, track_section, signal_section, route_section, entry_section, sections, parse}
use Rattle.reading.proofs.Meaning.{reads_readable}
use Rattle.state.specs.declared.State.{State}
use Rattle.state.specs.State.{no_train, reverse_lie, state_of, train_at, fresh, again, once, point_or, points_only, named_at, greens_name, lies_known, well_formed}
use Rattle.state.specs.Holds.{empty, within}
use Rattle.events.specs.declared.Event.{Event}
use Rattle.events.specs.declared.Deed.TheVariants.{Granted, Cancelled, Entered, Moved, Left}
use Rattle.events.specs.declared.Answer.{Answer}
use Rattle.events.specs.declared.Answer.TheVariants.{Refused, Accident, Done}
use Rattle.events.specs.Decide.{answer}
use Rattle.events.specs.After.{next_state}
use Rattle.events.specs.Meaning.{Follows}
use Rattle.events.proofs.Told.{Told, Front}
use Rattle.events.proofs.Given.{given, told}
use Rattle.events.proofs.Kept.{next_follows, no_train_lem}
use Rattle.demands.specs.Demands.{reached}
use Rattle.demands.specs.Ours.{ours}

abbrev pub alone_file : List ℕ
alone_file = 1 ∷ facing_kind ∷ 0 ∷ 0 ∷ 0 ∷ 0 ∷ 0 ∷ 0 ∷ []

abbrev pub alone : Plan
alone = record { tracks = record { kind = facing_kind; first = 0; second = 0; third = 0 } ∷ []; signals = []; routes = []; entries = [] }

pub alone_reads : parse alone_file ≡ got alone 8 []
unfolding uses limit_of and_then done number count many counted rising_list track track_section signal_section route_section entry_section sections parse
alone_reads = refl

-- its point lies reverse
unfoldable pub turned : State
turned = state_of fresh.trains (set fresh.lies 0 reverse_lie) fresh.holds fresh.signals

pub turned_formed : well_formed alone turned ≡ true
unfolding turned fresh again once point_or points_only named_at greens_name lies_known well_formed empty within forks point is_point empty_from all_below
turned_formed = refl

pub turned_not_fresh : turned ≢ fresh
unfolding turned fresh
turned_not_fresh e = let z : reverse_lie ≡ 0 = ap (λ (σ : State). get_or σ.lies 0 0) e in omega arith

-- Where no train is, nothing can be done to it: there is no route, no entry and no train.
module _ (σ : State) (empty : (u : ℕ) → train_at σ u ≡ no_train) where
  nobody : (train u : ℕ) → Front alone σ train u → ⊥
  nobody train u w = w.numbered (sym w.at ∙ empty u)

  stays : (a : Answer) (τ : State) → Told alone σ a → Follows alone σ τ a → τ ≡ σ
  stays (Refused refusal) τ t f = f
  stays (Accident harm) τ t f = f
  stays (Done (Granted r)) τ t f = absurd (let h = t.known in omega arith)
  stays (Done (Cancelled r)) τ t f = absurd (let h = t.known in omega arith)
  stays (Done (Entered train u)) τ t f = absurd (let h = t.entry.known in omega arith)
  stays (Done (Moved train u v)) τ t f = absurd (nobody train u t.step.front)
  stays (Done (Left train u)) τ t f = absurd (nobody train u t)

  still : (events : List Event) → reached ours alone σ events ≡ σ
  unfolding reached
  still [] = refl
  still (e ∷ events) =
      let R = (reads_readable alone_file alone_reads).1 in
      let z : next_state alone σ e ≡ σ = stays (answer alone σ e) _ (told alone R σ (given alone R σ e)) (next_follows alone R σ e) in
      ap (λ (s : State). reached ours alone s events) z ∙ still events

pub turned_stays : (events : List Event) → reached ours alone turned events ≡ turned
unfolding turned train_at
turned_stays events = still turned no_train_lem events

pub fresh_stays : (events : List Event) → reached ours alone fresh events ≡ fresh
fresh_stays events = still fresh no_train_lem events
