-- Why there is no accident: what a request turns or an entry takes was found clear (42, and 40 at an entry); a train that may go on has its route
-- free ahead (40), and the points there lie for it (41).
use mathlib.Core.Path.{◌≡◌, sym, ap, ◌∙◌}
use mathlib.Core.Logic.{inl, inr}
use Prim.Native.Nat.{ℕ, suc, ◌<◌}
use native.Mathlib.Omega.{arith}
use Rattle.laws.specs.Tests.{same?}
use Rattle.laws.specs.Answers.{NoSuch}
use Rattle.plan.specs.Kinds.{leg, Exit}
use Rattle.plan.specs.Records.{Plan, home_of, track_of}
use Rattle.plan.specs.Layout.{Home}
use Rattle.plan.specs.Routes.{path_length, track_at}
use Rattle.plan.specs.File.{Readable}
use Rattle.rules.specs.Verdict.{Sound}
use Rattle.rules.proofs.Numbered.{twelve}
use Rattle.state.specs.declared.State.{State}
use Rattle.state.specs.State.{train_at, lie_at, shown_at, HasTrain, WellFormed}
use Rattle.events.specs.declared.Harm.{Harm}
use Rattle.events.specs.declared.Harm.TheVariants.{Collision, RunThrough, Derailment}
use Rattle.events.specs.declared.Answer.TheVariants.{Accident}
use Rattle.events.specs.Meaning.{RedAt, RunsThrough}
use Rattle.events.proofs.Told.{Step, Told}
use Rattle.events.proofs.Reflect.{other_listed}
use Rattle.events.proofs.Follow.{not_red_lem}
use Rattle.demands.proofs.Cases.{home?, same_lie, leg_lie}
use Rattle.demands.proofs.Facts.{at_home, path_some, listed_clear}
use Rattle.demands.proofs.Invariant.{Mobile, Place, Way, Invariant, leg_ahead, goes_on}

module _ (p : Plan) (reads : Readable p) (sound : Sound p) (σ : State) (inv : Invariant p σ) (formed : WellFormed p σ) where
  -- the train may go on: its signal is green for a route, or it is on its way and not at the end
  place : (u : ℕ) → Mobile σ u → NoSuch (RedAt p σ u) → (Exit (track_of p u) → ⊥) → (pl : Place p σ u) × (pl.i < path_length p pl.r)
  place u t go off = elim (home? p u) [
    | inl h ↦ at_signal h
    | inr h ↦ (let pl = inv.away u t h in (pl, not_last pl h))
  ]
    where
      at_signal : Home p u → (pl : Place p σ u) × (pl.i < path_length p pl.r)
      at_signal (s, hs, e) =
          let (r, g) = not_red_lem (shown_at σ s) (λ z. go s ((hs, e), z)) in
          let (known, start) = formed.green s r g in (
            record { r = r; i = 0; at = at_home p r ∙ ap (home_of p) start ∙ e; ahead = inv.green r (ap (shown_at σ) start ∙ g) },
            path_some p reads r known,
          )

      not_last : (pl : Place p σ u) → (Home p u → ⊥) → pl.i < path_length p pl.r
      not_last pl h = elim (same? pl.i (path_length p pl.r)) [
        | inl e ↦ (let at : track_at p pl.r (path_length p pl.r) ≡ u = sym (ap (track_at p pl.r) e) ∙ pl.at in
            elim ((twelve sound).rule7 pl.r pl.ahead.known).last [ inl x ↦ absurd (h (rw at at x)) | inr x ↦ absurd (off (rw at at x)) ])
        | inr e ↦ (let z = pl.ahead.within in omega arith)
      ]

  pub way : {train u v : ℕ} → Step p σ train u v → Way p σ u v
  way {u = u} {v = v} s =
      let (pl, more) = place u (λ z. s.front.numbered (sym s.front.at ∙ z)) s.front.not_red s.onward in
      record { r = pl.r; i = pl.i; from = pl.at; to = goes_on p reads sound σ inv pl.r pl.i v pl.ahead more (rw pl.at s.next); more = more; ahead = pl.ahead }

  free_ahead : {u v : ℕ} → Way p σ u v → HasTrain σ v → ⊥
  free_ahead w t = t (sym (ap (train_at σ) w.to) ∙ w.ahead.empty (suc w.i) (omega arith) w.more)

  lies_for : {u v : ℕ} → Way p σ u v → RunsThrough p σ u v → ⊥
  lies_for {u} {v} w x =
      let (lie, l, d) = leg_lie p σ u v x in
      let (way, m, e) = leg_ahead p reads sound σ inv w.r w.i w.i w.ahead (omega arith) w.more (rw w.to x.0) in
      let same : lie ≡ way = same_lie lie way (sym l ∙ sym (ap (lie_at σ) w.to) ∙ m) in
      d (ap (leg (track_of p v)) same ∙ sym (ap (λ y. leg (track_of p y) way) w.to) ∙ e ∙ w.from)

  pub no_accident : (harm : Harm) → Told p σ (Accident harm) → ⊥
  no_accident (Derailment x) (r, known, clear, (t, other)) = clear x (listed_clear p reads sound r known x (other_listed p σ r x other), t)
  no_accident (Collision v) (inl (train, entry, t)) = entry.clear v (rw entry.track at ((twelve sound).rule12 entry.e entry.known), t)
  no_accident (Collision v) (inr (train, u, step, t)) = free_ahead (way step) t
  no_accident (RunThrough v) (train, u, step, through) = lies_for (way step) through
