-- Every answer on a readable plan can be acted on: what it names is there.
use mathlib.Core.Bool.{not, ◌&&◌}
use Prim.Native.Nat.{ℕ, ◌<◌}
use lib.ListN.{length}
use lib.Dec.{eqb, ltb}
use borrow.Author.Tests.{ltb-true}
use Rattle.laws.specs.Tests.{and_l}
use Rattle.laws.specs.Search.{lowest_at, cond_ind, unless_ind}
use Rattle.plan.specs.Kinds.{exit}
use Rattle.plan.specs.Records.{Plan, home_of, route_of, entry_of, track_of}
use Rattle.plan.specs.File.{Readable}
use Rattle.state.specs.declared.State.{State}
use Rattle.events.specs.declared.Event.{Event}
use Rattle.events.specs.declared.Event.TheVariants.{Request, Cancel, Enter, Move, Unknown}
use Rattle.events.specs.Decide.{has_train, is_red, is_green, stands, front_of, in_plan, way_out, runs_through, answer_request, answer_cancel, answer_enter, move_to, move_from, answer_move, decided}
use Rattle.events.specs.After.{Names, Acts}
use Rattle.events.proofs.Facts.{entry_below}
use Rattle.events.proofs.Busy.{unless_train_ind}
use Rattle.decide.proofs.Within.{next_within}

module _ {p : Plan} (w : Readable p) (σ : State) where
  request_acts : (r : ℕ) → r < length p.routes → Acts p (answer_request p σ r)
  unfolding answer_request Acts Names
  request_acts r h =
      cond_ind (Acts p) (is_red σ.signals (route_of p r).start)
      (λ _. unless_train_ind (Acts p) _ _ _ (λ u train _. tt)
      (λ _. unless_ind (Acts p) _ _ _ (λ q _. tt)
      (λ _. unless_ind (Acts p) _ _ _ (λ q _. tt)
      (λ _. h))))
      (λ _. tt)

  cancel_acts : (r : ℕ) → r < length p.routes → Acts p (answer_cancel p σ.trains σ.signals r)
  unfolding answer_cancel Acts Names
  cancel_acts r h =
      cond_ind (Acts p) (is_green σ.signals (route_of p r).start r)
      (λ _. cond_ind (Acts p) (has_train σ.trains (home_of p (route_of p r).start)) (λ _. tt)
      (λ _. h))
      (λ _. tt)

  enter_acts : (e train : ℕ) → e < length p.entries → Acts p (answer_enter p σ.trains e train)
  unfolding answer_enter Acts Names
  enter_acts e train h =
      cond_ind (Acts p) (in_plan p σ.trains train) (λ _. tt)
      (λ _. unless_train_ind (Acts p) _ _ _ (λ u other _. tt)
      (λ _. cond_ind (Acts p) (has_train σ.trains (entry_of p e).track) (λ _. tt)
      (λ _. entry_below p w e h)))

  to_acts : (train u v : ℕ) → u < length p.tracks → v < length p.tracks → Acts p (move_to p σ.trains σ.lies train u v)
  unfolding move_to Acts Names
  to_acts train u v h k =
      cond_ind (Acts p) (has_train σ.trains v) (λ _. tt)
      (λ _. cond_ind (Acts p) (runs_through p σ.lies u v) (λ _. tt)
      (λ _. (h, k)))

  from_acts : (train u : ℕ) → u < length p.tracks → Acts p (move_from p σ.trains σ.lies σ.signals train u)
  unfolding move_from Acts Names
  from_acts train u h =
      unless_ind (Acts p) _ _ _ (λ s _. tt)
      (λ _. cond_ind (Acts p) (exit (track_of p u)) (λ _. h)
      (λ x. to_acts train u (way_out p σ.lies u) h (next_within w h x σ.lies)))

  move_acts : (train : ℕ) → Acts p (answer_move p σ.trains σ.lies σ.signals train)
  unfolding answer_move front_of Acts Names
  move_acts train = unless_ind (Acts p) _ _ _ (λ u e. from_acts train u (lowest_at (length p.tracks) (stands σ.trains train) e).below) (λ _. tt)

  pub decided_acts : (event : Event) → Acts p (decided p σ event)
  unfolding decided Acts Names
  decided_acts (Request r) = cond_ind (Acts p) (ltb r (length p.routes)) (λ e. request_acts r (ltb-true r (length p.routes) e)) (λ _. tt)
  decided_acts (Cancel r) = cond_ind (Acts p) (ltb r (length p.routes)) (λ e. cancel_acts r (ltb-true r (length p.routes) e)) (λ _. tt)
  decided_acts (Enter e train) =
      cond_ind (Acts p) (ltb e (length p.entries) && not (eqb train 0))
      (λ h. enter_acts e train (ltb-true e (length p.entries) (and_l (ltb e (length p.entries)) (not (eqb train 0)) h)))
      (λ _. tt)
  decided_acts (Move train) = cond_ind (Acts p) (eqb train 0) (λ _. tt) (λ _. move_acts train)
  decided_acts Unknown = tt
