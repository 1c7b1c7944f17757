-- The rules by their numbers, each with the rows that it goes over: what the list says, said once more. So no sentence of the list can stand at
-- another number, or go over other rows, unnoticed; and the safety proof names the rules that it uses.
use mathlib.Core.Logic.{◌↔◌}
use mathlib.Core.List.{List, [], ◌∷◌}
use Prim.Native.Nat.{ℕ, zero, suc, ◌<◌}
use native.Mathlib.Nat.{not-suc-le-zero}
use lib.ListN.{length, get_or}
use Rattle.laws.specs.Lists.{All}
use Rattle.plan.specs.Records.{Plan}
use Rattle.rules.specs.Sentences.{WaysDiffer, LegsLead, LedOnce, HomePlain, EntryPlaced, PathLinked, PathEnds, PathClear, PointsListed, PointsClear, ReleasesFit, EntryClear}
use Rattle.rules.specs.Verdict.{Rule, rules, no_rule, rule_of, Sound}

pub record Twelve (p : Plan) : Type 0 where
  pub rule1 : (u : ℕ) → u < length p.tracks → WaysDiffer p u
  pub rule2 : (v : ℕ) → v < length p.tracks → LegsLead p v
  pub rule3 : (v : ℕ) → v < length p.tracks → LedOnce p v
  pub rule4 : (s : ℕ) → s < length p.signals → HomePlain p s
  pub rule5 : (e : ℕ) → e < length p.entries → EntryPlaced p e
  pub rule6 : (r : ℕ) → r < length p.routes → PathLinked p r
  pub rule7 : (r : ℕ) → r < length p.routes → PathEnds p r
  pub rule8 : (r : ℕ) → r < length p.routes → PathClear p r
  pub rule9 : (r : ℕ) → r < length p.routes → PointsListed p r
  pub rule10 : (r : ℕ) → r < length p.routes → PointsClear p r
  pub rule11 : (r : ℕ) → r < length p.routes → ReleasesFit p r
  pub rule12 : (e : ℕ) → e < length p.entries → EntryClear p e

abbrev Kept : Rule → Type 0
Kept rule = (i : ℕ) → i < rule.rows → rule.sentence i

kept : (l : List Rule) → All Kept l → (k : ℕ) → Kept (get_or l k no_rule)
unfolding All
kept [] w k = λ i h. absurd (not-suc-le-zero h)
kept (rule ∷ l) w zero = w.0
kept (rule ∷ l) w (suc k) = kept l w.1 k

pub numbered : (p : Plan) → Sound p ↔ Twelve p
unfolding rule_of rules All
numbered p = (
  λ s. record {
    rule1 = s.says 1;
    rule2 = s.says 2;
    rule3 = s.says 3;
    rule4 = s.says 4;
    rule5 = s.says 5;
    rule6 = s.says 6;
    rule7 = s.says 7;
    rule8 = s.says 8;
    rule9 = s.says 9;
    rule10 = s.says 10;
    rule11 = s.says 11;
    rule12 = s.says 12;
  },
  λ t. record {
    says = kept (no_rule ∷ rules p) (λ i h. absurd (not-suc-le-zero h), (t.rule1, (t.rule2, (t.rule3, (t.rule4, (t.rule5, (t.rule6, (t.rule7, (t.rule8, (t.rule9, (t.rule10, (t.rule11, (t.rule12, tt)))))))))))));
  },
)

pub twelve : {p : Plan} → Sound p → Twelve p
twelve {p} = (numbered p).0
