-- What an answer tells: of each answer that acts or harms, what the rows above it let pass. Proofs about answers go by these names.
use mathlib.Core.Path.{◌≡◌}
use mathlib.Core.Bool.{Bool, true, false}
use mathlib.Core.Logic.{◌≢◌, ◌⊎◌}
use Prim.Native.Nat.{ℕ, ◌<◌}
use lib.ListN.{length}
use lib.Dec.{eqb}
use Rattle.laws.specs.Answers.{NoSuch}
use Rattle.plan.specs.Kinds.{Exit}
use Rattle.plan.specs.Records.{Plan, route_of, entry_of, track_of}
use Rattle.state.specs.declared.State.{State}
use Rattle.state.specs.State.{no_train, HasTrain, WellFormed}
use Rattle.events.specs.declared.Harm.{Harm}
use Rattle.events.specs.declared.Harm.TheVariants.{Collision, RunThrough, Derailment}
use Rattle.events.specs.declared.Deed.{Deed}
use Rattle.events.specs.declared.Deed.TheVariants.{Granted, Cancelled, Entered, Moved, Left}
use Rattle.events.specs.declared.Answer.{Answer}
use Rattle.events.specs.declared.Answer.TheVariants.{Refused, Accident, Done}
use Rattle.events.specs.Answers.{refusal_number}
use Rattle.events.specs.Meaning.{Busy, HeldOther, Derails, FrontAt, InPlan, RedAt, Next, RunsThrough, SignalGreen}

module _ (p : Plan) (σ : State) where
  pub record Granting (r : ℕ) : Type 0 where
    pub formed : WellFormed p σ
    pub known : r < length p.routes
    pub clear : NoSuch (Busy p σ (route_of p r).clear)
    pub idle : NoSuch (HeldOther p σ r)

  pub record Cancelling (r : ℕ) : Type 0 where
    pub formed : WellFormed p σ
    pub known : r < length p.routes
    pub green : SignalGreen p σ r

  -- an entry for a train that is new, its clear list free
  pub record Entry (train u : ℕ) : Type 0 where
    pub formed : WellFormed p σ
    pub e : ℕ
    pub known : e < length p.entries
    pub numbered : train ≢ no_train
    pub track : (entry_of p e).track ≡ u
    pub new : InPlan p σ train → ⊥
    pub clear : NoSuch (Busy p σ (entry_of p e).clear)

  -- a train on the track u that no red signal stops
  pub record Front (train u : ℕ) : Type 0 where
    pub formed : WellFormed p σ
    pub numbered : train ≢ no_train
    pub at : FrontAt p σ train u
    pub not_red : NoSuch (RedAt p σ u)

  -- and goes on to v
  pub record Step (train u v : ℕ) : Type 0 where
    pub front : Front train u
    pub onward : Exit (track_of p u) → ⊥
    pub next : Next p σ u v

  pub record Entering (train u : ℕ) : Type 0 where
    pub entry : Entry train u
    pub free : HasTrain σ u → ⊥

  pub record Moving (train u v : ℕ) : Type 0 where
    pub step : Step train u v
    pub free : HasTrain σ v → ⊥

  abbrev pub Harmed : Harm → Type 0
  Harmed (Collision v) = ((train : ℕ) × Entry train v × HasTrain σ v) ⊎ ((train u : ℕ) × Step train u v × HasTrain σ v)
  Harmed (RunThrough v) = (train u : ℕ) × Step train u v × RunsThrough p σ u v
  Harmed (Derailment q) = (r : ℕ) × (r < length p.routes) × NoSuch (Busy p σ (route_of p r).clear) × Derails p σ r q

  -- 10 is refused to an ill-formed state alone; of other refusals nothing is asked
  abbrev pub Ill : Bool → Type 0
  Ill true = WellFormed p σ → ⊥
  Ill false = Unit

  abbrev pub Doing : Deed → Type 0
  Doing (Granted r) = Granting r
  Doing (Cancelled r) = Cancelling r
  Doing (Entered train u) = Entering train u
  Doing (Moved train u v) = Moving train u v
  Doing (Left train u) = Front train u

  abbrev pub Told : Answer → Type 0
  Told (Refused refusal) = Ill (eqb (refusal_number refusal) 10)
  Told (Accident harm) = Harmed harm
  Told (Done deed) = Doing deed
