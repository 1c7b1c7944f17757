-- The public face in the steps that the code takes: the plan is read, the state is tested, an event is decided and acted on. Assumes nothing.
use Rattle.std.specs.Prelude.{Err, Ok, Result}
use Rattle.signalbox.specs.declared.Reason.{Reason}
use Rattle.signalbox.specs.declared.Reason.TheVariants.{NoPlan, BadState, NoRoom}
use mathlib.Core.Path.{◌≡◌, refl, sym, ap, ◌∙◌}
use mathlib.Core.Bool.{Bool, true, false, cond, not}
use mathlib.Core.Logic.{inl, inr}
use mathlib.Core.List.{List, [], ◌∷◌}
use Prim.Native.Nat.{ℕ}
use native.Mathlib.Omega.{arith}
use Rattle.laws.specs.Tests.{split, never, not_t, not_f}
use Rattle.plan.specs.Records.{Plan}
use Rattle.plan.specs.File.{Readable}
use Rattle.plan.specs.Image.{plan_of}
use Rattle.plan.proofs.Shown.{plan_shown}
use Rattle.reading.specs.declared.Form.{Form}
use Rattle.reading.specs.declared.Form.TheVariants.{EndsEarly, BadCount, BadNumber, NotRising, LeftOver}
use Rattle.reading.specs.Reading.{Got, form, got, parse, seen}
use Rattle.reading.proofs.Meaning.{reads_readable}
use Rattle.loading.specs.Storing.{after_reading}
use Rattle.rules.specs.Verdict.{verdict, Verdict}
use Rattle.state.specs.declared.State.{State}
use Rattle.state.specs.State.{well_formed}
use Rattle.events.specs.declared.Event.{Event}
use Rattle.events.specs.declared.Refusal.TheVariants.{IllFormed}
use Rattle.events.specs.declared.Answer.{Answer}
use Rattle.events.specs.declared.Answer.TheVariants.{Refused as Refuses}
use Rattle.events.specs.Answers.{refusal_number, answer_number}
use Rattle.events.specs.Decide.{decided, answer}
use Rattle.events.specs.After.{after, next_state}
use Rattle.events.proofs.Views.{after_refusal}
use Rattle.demands.specs.Demands.{reached}
use Rattle.demands.specs.Session.{state_after}
use Rattle.demands.proofs.Session.{goes_on}
use Rattle.codes.specs.Codes.{packed, answer_code, form_code, verdict_code, read_code, check_code}
use Rattle.signalbox.specs.Face.{step_code, in_the_way, readiness, reason_code, Stepped}

-- A file that was read: its plan, which the image shows.
pub record Read (file image : List ℕ) : Type 0 where
  pub plan : Plan
  pub at : ℕ
  pub rest : List ℕ
  pub parses : parse file ≡ got plan at rest
  pub shows : plan_of image ≡ plan
  pub readable : Readable plan

module _ (file old : List ℕ) {image : List ℕ} {r : Result ℕ Form} (told : (r ≡ seen (parse file)) × (image ≡ after_reading (parse file) old)) where
  pub unread : {f : Form} → r ≡ Err f → parse file ≡ form f
  unread {f} e = go (parse file) (sym e ∙ told.0)
    where
      go : (g : Got Plan) → Err f ≡ seen g → g ≡ form f
      go (form x) z = let w : f ≡ x = cc in rw w
      go (got p at rest) z = never (cc)

  pub was_read : {n : ℕ} → r ≡ Ok n → Read file image
  unfolding after_reading
  was_read {n} e = go (parse file) refl (sym e ∙ told.0)
    where
      go : (g : Got Plan) → parse file ≡ g → Ok n ≡ seen g → Read file image
      go (form x) q z = never (cc)
      go (got p at rest) q z =
          let R = (reads_readable file q).1 in
          record { plan = p; at = at; rest = rest; parses = q; shows = ap plan_of (told.1 ∙ ap (λ (g : Got Plan). after_reading g old) q) ∙ plan_shown p R; readable = R }

  pub way_refused : {f : Form} (σ : State) → r ≡ Err f → Err (NoPlan f) ≡ readiness (parse file) σ
  unfolding readiness
  way_refused σ e = rw (unread e)

  module _ {c : ℕ} where
    pub read_refused : {f : Form} → r ≡ Err f → c ≡ form_code f → c ≡ read_code (parse file)
    unfolding read_code
    read_refused e z = rw (unread e) z

    pub check_refused : {f : Form} → r ≡ Err f → c ≡ form_code f → c ≡ check_code (parse file)
    unfolding check_code
    check_refused e z = rw (unread e) z

module _ {file image : List ℕ} (w : Read file image) where
  pub read_good : 0 ≡ read_code (parse file)
  unfolding read_code
  read_good = rw w.parses

  pub checked : {c : ℕ} {v : Verdict} → v ≡ verdict (plan_of image) → c ≡ verdict_code v → c ≡ check_code (parse file)
  unfolding check_code
  checked e z = rw (w.parses, ← w.shows, ← e) z

  pub readable_image : Readable (plan_of image)
  readable_image = rw w.shows w.readable

  -- the state is tested
  module _ (σ : State) {b : Bool} (t : b ≡ well_formed (plan_of image) σ) where
    pub ill_ready : not b ≡ true → Err BadState ≡ readiness (parse file) σ
    unfolding readiness
    ill_ready h = let n : well_formed w.plan σ ≡ false = rw w.shows at (sym t ∙ not_t b h) in rw (w.parses, n)

    pub way_ill : {c : ℕ} → not b ≡ true → c ≡ answer_code (Refuses IllFormed) → c ≡ in_the_way (parse file) σ
    unfolding in_the_way
    way_ill h z = let n : well_formed w.plan σ ≡ false = rw w.shows at (sym t ∙ not_t b h) in rw (w.parses, n) z

    pub way_free : not b ≡ false → Ok tt ≡ readiness (parse file) σ
    unfolding readiness
    way_free h = let y : well_formed w.plan σ ≡ true = rw w.shows at (sym t ∙ not_f b h) in rw (w.parses, y)

-- Nothing is in the way: the plan was read, and the state is well formed.
pub record Ready (file image : List ℕ) (σ : State) : Type 0 where
  pub read : Read file image
  pub formed : well_formed (plan_of image) σ ≡ true
  pub free : in_the_way (parse file) σ ≡ 0

pub some_form : (f : Form) → form_code f ≡ 0 → ⊥
unfolding form_code
some_form (EndsEarly at) e = omega arith
some_form (BadCount at) e = omega arith
some_form (BadNumber at) e = omega arith
some_form (NotRising at) e = omega arith
some_form (LeftOver at) e = omega arith

pub some_ill : answer_code (Refuses IllFormed) ≡ 0 → ⊥
unfolding answer_code packed answer_number refusal_number
some_ill e = omega arith

-- Where something is in the way, its code is the reason.
pub stopped : (g : Got Plan) (σ : State) {r : Result Unit Reason} {why : Reason} → r ≡ readiness g σ → r ≡ Err why → reason_code why ≡ in_the_way g σ
unfolding readiness in_the_way
stopped g σ {r} {why} told e = go g (sym e ∙ told)
  where
    ill : (b : Bool) → Err why ≡ cond {A = Result Unit Reason} b (Ok tt) (Err BadState) → reason_code why ≡ cond b 0 (answer_code (Refuses IllFormed))
    ill true q = never (cc)
    ill false q = let z : why ≡ BadState = cc in rw z

    go : (h : Got Plan) → Err why ≡ readiness h σ → reason_code why ≡ in_the_way h σ
    go (form f) q = let w : why ≡ NoPlan f = cc in rw w
    go (got p at rest) q = ill (well_formed p σ) q

pub some_reason : (why : Reason) → reason_code why ≡ 0 → ⊥
some_reason (NoPlan f) e = some_form f e
some_reason BadState e = some_ill e
some_reason NoRoom e = omega arith

module _ {file image : List ℕ} (old : List ℕ) {σ : State} {r : Result Unit Reason} (told : (r ≡ readiness (parse file) σ) × (image ≡ after_reading (parse file) old)) where
  pub is_ready : {u : Unit} → r ≡ Ok u → Ready file image σ
  unfolding readiness in_the_way after_reading
  is_ready {u} z = go (parse file) refl (sym z ∙ told.0)
    where
      go : (g : Got Plan) → parse file ≡ g → Ok u ≡ readiness g σ → Ready file image σ
      go (form f) q e = never (cc)
      go (got p at rest) q e = elim (split (well_formed p σ)) [
        | inl y ↦ (
            let R = (reads_readable file q).1 in
            let s : plan_of image ≡ p = ap plan_of (told.1 ∙ ap (λ (g : Got Plan). after_reading g old) q) ∙ plan_shown p R in
            record { read = record { plan = p; at = at; rest = rest; parses = q; shows = s; readable = R }; formed = rw s y; free = rw (q, y) })
        | inr n ↦ never (let e' : Ok u ≡ Err BadState = rw n at e in cc)
      ]

-- One event: it is refused, or played.
module _ (file : List ℕ) (σ : State) (event : Event) where
  one_event : {c : ℕ} {τ : State} → c ≡ step_code (parse file) σ event → τ ≡ state_after (parse file) σ (event ∷ []) → Stepped (parse file) σ event c τ
  one_event e z = record { code = e; state = z; carries = rw z (goes_on file σ (event ∷ [])) }

  pub step_stopped : {c : ℕ} → c ≡ in_the_way (parse file) σ → (c ≡ 0 → ⊥) → Stepped (parse file) σ event c σ
  unfolding in_the_way step_code state_after reached next_state answer
  step_stopped {c} e n = go (parse file) refl e
    where
      go : (g : Got Plan) → parse file ≡ g → c ≡ in_the_way g σ → Stepped (parse file) σ event c σ
      go (form f) q z = one_event (rw q z) (rw q)
      go (got p at rest) q z = elim (split (well_formed p σ)) [
        | inl y ↦ absurd (n (z ∙ rw y))
        | inr y ↦ one_event (rw (q, y) (z ∙ rw y)) (rw (q, y) (sym (after_refusal p σ IllFormed)))
      ]

  pub stepped : {image : List ℕ} → Ready file image σ → {a : Answer} {c : ℕ} {τ : State} → a ≡ decided (plan_of image) σ event → τ ≡ after (plan_of image) σ (decided (plan_of image) σ event)
      → c ≡ answer_code a → Stepped (parse file) σ event c τ
  unfolding step_code state_after reached next_state answer
  stepped w e z y =
      let r = w.read in
      let f : well_formed r.plan σ ≡ true = rw r.shows at w.formed in
      one_event (rw (r.parses, f, ← r.shows) (y ∙ ap answer_code e)) (rw (r.parses, f, ← r.shows) z)
