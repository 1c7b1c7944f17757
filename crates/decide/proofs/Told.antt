-- What a test of the code tells, at the plan's own values: each is what the code read. And what a chain of tests hands back.
use Rattle.std.specs.Prelude.{Option, None, Some, ok_or, Result, Ok, Err, IsErrAnd, MatchOption, IsSomeAnd, is_some}
use mathlib.Core.Path.{◌≡◌, refl, ap}
use mathlib.Core.Bool.{Bool, true, false, not}
use mathlib.Core.List.{List}
use Prim.Native.Nat.{ℕ}
use lib.ListN.{length, get_or}
use lib.Dec.{ltb, eqb}
use Rattle.laws.specs.Tests.{clash}
use Rattle.laws.specs.Search.{lowest}
use Rattle.plan.specs.Records.{Plan, home_of}
use Rattle.events.specs.declared.Deed.{Deed}
use Rattle.events.specs.declared.Refusal.{Refusal}
use Rattle.events.specs.declared.Harm.{Harm}
use Rattle.events.specs.declared.Answer.{Answer}
use Rattle.events.specs.declared.Answer.TheVariants.{Refused, Accident, Done}
use Rattle.events.specs.Decide.{is_found, stands, front_of}
use Rattle.decide.specs.Chain.{chained, ensured, stopped}

-- A refusal or a harm on which the chain ends by `?` is the answer.
pub refused : (r : Result Deed Answer) {refusal : Refusal} → IsErrAnd r (λ answer. answer ≡ Refused refusal) → r ≡ chained (Refused refusal)
refused (Ok deed) h = absurd h
refused (Err answer) h = ap Err h

pub harmed : (r : Result Deed Answer) {harm : Harm} → IsErrAnd r (λ answer. answer ≡ Accident harm) → r ≡ chained (Accident harm)
harmed (Ok deed) h = absurd h
harmed (Err answer) h = ap Err h

pub same_refusal : {x y : Refusal} → x ≡ y → chained (Refused x) ≡ chained (Refused y)
same_refusal e = ap (λ (x : Refusal). chained (Refused x)) e

pub same_harm : {x y : Harm} → x ≡ y → chained (Accident x) ≡ chained (Accident y)
same_harm e = ap (λ (x : Harm). chained (Accident x)) e

-- What comes of a chain is the answer that it was made of.
pub answer_done : (a : Answer) {r : Result Deed Answer} {deed : Deed} → r ≡ chained a → r ≡ Ok deed → Done deed ≡ a
answer_done (Refused refusal) e h = cc
answer_done (Accident harm) e h = cc
answer_done (Done deed) e h = cc

pub answer_stopped : (a : Answer) {r : Result Deed Answer} {answer : Answer} → r ≡ chained a → r ≡ Err answer → answer ≡ a
answer_stopped (Refused refusal) e h = cc
answer_stopped (Accident harm) e h = cc
answer_stopped (Done deed) e h = cc

-- What `ensure` tells where the chain goes on and where it ends.
pub held : {E : Type 0} (b : Bool) (stop : E) {u : Unit {0}} → Ok u ≡ ensured b stop → b ≡ true
held true stop e = refl
held false stop e = cc

pub failed : {E : Type 0} (b : Bool) {e stop : E} → Err e ≡ ensured b stop → (b ≡ false) × (e ≡ stop)
failed true h = cc
failed false h = (refl, cc)

-- What `stop_at` tells of what a test found, from which the stop was made.
module _ {A E : Type 0} (P : A → E → Type 0) where
  pub nothing : (found : Option A) (made : Option E) {u : Unit {0}} → MatchOption found (made ≡ None) (λ x. IsSomeAnd made (P x)) → Ok u ≡ stopped made → found ≡ None
  nothing None made m e = refl
  nothing (Some x) None m e = absurd m
  nothing (Some x) (Some y) m e = cc

  pub met : (found : Option A) (made : Option E) {stop : E} → MatchOption found (made ≡ None) (λ x. IsSomeAnd made (P x)) → Err stop ≡ stopped made → (x : A) × (found ≡ Some x) × P x stop
  met None None m e = cc
  met None (Some y) m e = cc
  met (Some x) None m e = absurd m
  met (Some x) (Some y) {stop} m e = let same : stop ≡ y = cc in (x, refl, rw same m)

-- What is to be found and isn't.
pub missing : {A E : Type 0} {found : Option A} {e stop : E} → found ≡ None → Err e ≡ ok_or found stop → e ≡ stop
missing absent e = cc

-- A test that asks for the contrary.
pub so : {b : Bool} → not b ≡ false → b ≡ true
so {b = true} h = refl
so {b = false} h = clash refl h

pub not_so : {b : Bool} → not b ≡ true → b ≡ false
not_so {b = true} h = clash h refl
not_so {b = false} h = refl

-- 17: whether it was found.
pub is_in : (found : Option ℕ) {b : Bool} → is_some found ≡ not b → b ≡ false → is_found found ≡ true
is_in None e f = cc
is_in (Some x) e f = refl

pub is_out : (found : Option ℕ) {b : Bool} → is_some found ≡ not b → b ≡ true → is_found found ≡ false
is_out None e f = refl
is_out (Some x) e f = cc

-- 11: whether the plan has the route or the entry, by the count that was read.
pub by_count : {n m : ℕ} (r : ℕ) {b : Bool} → n ≡ m → ltb r n ≡ b → ltb r m ≡ b
by_count r e t = rw (← e) t

-- 12 and 15: what a signal shows.
pub shown_here : {s t shown : ℕ} (signals : List ℕ) → s ≡ t → shown ≡ get_or signals s 0 → get_or signals t 0 ≡ shown
shown_here signals e f = cc

pub shown_so : {s t shown : ℕ} (signals : List ℕ) (k : ℕ) {b : Bool} → s ≡ t → shown ≡ get_or signals s 0 → eqb shown k ≡ b → eqb (get_or signals t 0) k ≡ b
shown_so signals k e f t = rw (← e, ← f) t

-- 16: the home of a signal.
pub home_here : {s t track : ℕ} (p : Plan) → s ≡ t → track ≡ home_of p s → home_of p t ≡ track
home_here p e f = cc

-- 17 and 18: where a train stands.
pub front_here : (p : Plan) (trains : List ℕ) (train : ℕ) {found : Option ℕ} → found ≡ lowest (length p.tracks) (stands trains train) → front_of p trains train ≡ found
unfolding front_of
front_here p trains train e = rw e
