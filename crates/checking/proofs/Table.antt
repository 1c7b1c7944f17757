-- The list of rules, as code goes through it: what it has of each rule stops it there, or has it go on to the rules that are left.
use Rattle.std.specs.Prelude.{◌≡◌, ℕ, suc, Bool, not, List, [], ◌∷◌, None, Option, Some, Err, Ok}
use Rattle.std.specs.Result.{IsErrAnd}
use Rattle.std.proofs.Common.{refl, sym, ap, ◌∙◌}
use Rattle.std.proofs.lemmas.Result.{err_from_is_err_and}
use Rattle.laws.specs.Tests.{never}
use Rattle.laws.specs.Search.{lowest, unless}
use Rattle.plan.specs.Records.{Plan}
use Rattle.rules.specs.declared.Broken.{Broken}
use Rattle.rules.specs.Verdict.{Rule, Verdict, over, rules, first_broken, lowest_broken, verdict, broken}

-- the rules that are left, of which the first has number k, give the verdict
pub record Left (p : Plan) (k : ℕ) (l : List Rule) : Type 0 where
  pub rest : first_broken k l ≡ verdict p

pub all_rules : (p : Plan) → Left p 1 (rules p)
unfolding verdict
all_rules p = record { rest = refl }

module _ {p : Plan} {k m rows : ℕ} {test : ℕ → Bool} {sentence : ℕ → Type 0} {l : List Rule} {r : Verdict} (left : Left p k (over rows test sentence ∷ l))
    (told : r ≡ unless (lowest m (λ i. not (test i))) (broken k) (Ok tt)) (e : m ≡ rows) where
  told_of_rows : r ≡ unless (lowest rows (λ i. not (test i))) (broken k) (Ok tt)
  told_of_rows = told ∙ ap (λ n. unless (lowest n (λ i. not (test i))) (broken k) (Ok tt)) e

  pub rule_kept : {u : Unit} → r ≡ Ok u → Left p (suc k) l
  unfolding first_broken lowest_broken unless
  rule_kept {u} w = go (lowest rows (λ i. not (test i))) told_of_rows left.rest
    where
      go : (o : Option ℕ) → r ≡ unless o (broken k) (Ok tt) → unless o (broken k) (first_broken (suc k) l) ≡ verdict p → Left p (suc k) l
      go None t f = record { rest = f }
      go (Some i) t f = never (cc)

  -- what is handed on by `?` is the error itself
  pub rule_broken : {b : Broken} {s : Verdict} → r ≡ Err b → IsErrAnd s (λ d. d ≡ b) → s ≡ verdict p
  unfolding first_broken lowest_broken unless
  rule_broken {b} {s} w same = let q = err_from_is_err_and s same in q.1 ∙ ap Err q.2 ∙ go (lowest rows (λ i. not (test i))) told_of_rows left.rest
    where
      go : (o : Option ℕ) → r ≡ unless o (broken k) (Ok tt) → unless o (broken k) (first_broken (suc k) l) ≡ verdict p → Err b ≡ verdict p
      go None t f = never (cc)
      go (Some i) t f = sym w ∙ t ∙ f

-- the last one of the list
pub rule_last : {p : Plan} {k m rows : ℕ} {test : ℕ → Bool} {sentence : ℕ → Type 0} {r : Verdict} → Left p k (over rows test sentence ∷ [])
    → r ≡ unless (lowest m (λ i. not (test i))) (broken k) (Ok tt) → m ≡ rows → r ≡ verdict p
unfolding first_broken lowest_broken
rule_last left told e = told_of_rows left told e ∙ left.rest
