-- The plan rules in the document's order, and the verdict: accepted, or the lowest broken rule with its lowest row.
use Rattle.rules.specs.declared.Broken.{Broken}
use Rattle.std.specs.Prelude.{ℕ, suc, ◌<◌, Bool, true, not, List, [], ◌∷◌, length, get_or, Option, Err, Ok, Result}
use Rattle.laws.specs.Search.{lowest, unless}
use Rattle.plan.specs.Records.{Plan}
use Rattle.rules.specs.Rules.{ways_differ, legs_lead, led_once, home_plain, entry_placed, path_linked, path_ends, path_clear, points_listed, points_clear, releases_fit, entry_clear}
use Rattle.rules.specs.Sentences.{WaysDiffer, LegsLead, LedOnce, HomePlain, EntryPlaced, PathLinked, PathEnds, PathClear, PointsListed, PointsClear, ReleasesFit, EntryClear}

-- A rule: how many rows it goes over, its test of a row, which computes yes or no, and its sentence, in the document's words.
pub record Rule : Type 1 where
  pub rows : ℕ
  pub test : ℕ → Bool
  pub sentence : ℕ → Type 0

abbrev pub over : ℕ → (ℕ → Bool) → (ℕ → Type 0) → Rule
over rows test sentence = record { rows = rows; test = test; sentence = sentence }

-- the rules in their order
unfoldable pub rules : Plan → List Rule
rules p =
    over (length p.tracks) (ways_differ p) (WaysDiffer p)
    ∷ over (length p.tracks) (legs_lead p) (LegsLead p)
    ∷ over (length p.tracks) (led_once p) (LedOnce p)
    ∷ over (length p.signals) (home_plain p) (HomePlain p)
    ∷ over (length p.entries) (entry_placed p) (EntryPlaced p)
    ∷ over (length p.routes) (path_linked p) (PathLinked p)
    ∷ over (length p.routes) (path_ends p) (PathEnds p)
    ∷ over (length p.routes) (path_clear p) (PathClear p)
    ∷ over (length p.routes) (points_listed p) (PointsListed p)
    ∷ over (length p.routes) (points_clear p) (PointsClear p)
    ∷ over (length p.routes) (releases_fit p) (ReleasesFit p)
    ∷ over (length p.entries) (entry_clear p) (EntryClear p)
    ∷ []

-- what stands for a rule that doesn't exist: it goes over no row
abbrev pub no_rule : Rule
no_rule = over 0 (λ i. true) (λ i. Unit)

-- the rule of a number: they are counted from 1
unfoldable pub rule_of : Plan → ℕ → Rule
rule_of p k = get_or (no_rule ∷ rules p) k no_rule

-- the sentence of every rule is true of each of its rows
pub record Sound (p : Plan) : Type 0 where
  pub says : (k i : ℕ) → i < (rule_of p k).rows → (rule_of p k).sentence i

-- rule k is the lowest that is broken, and i its lowest row: the rules below k hold everywhere, rule k holds at the rows below i and fails at i
pub record Breaks (p : Plan) (k i : ℕ) : Type 0 where
  pub lower : (j row : ℕ) → j < k → row < (rule_of p j).rows → (rule_of p j).sentence row
  pub inside : i < (rule_of p k).rows
  pub before : (row : ℕ) → row < i → (rule_of p k).sentence row
  pub fails : (rule_of p k).sentence i → ⊥

-- what checking finds: nothing that is broken, or the lowest broken rule with its lowest row
abbrev pub Verdict : Type 0
Verdict = Result Unit Broken

abbrev pub broken : ℕ → ℕ → Verdict
broken rule row = Err (record { rule = rule; row = row })

-- the lowest row that breaks a rule
unfoldable pub lowest_broken : Rule → Option ℕ
lowest_broken rule = lowest rule.rows (λ i. not (rule.test i))

-- the lowest broken rule of a list, whose first has number k, with its lowest row
unfoldable pub first_broken : ℕ → List Rule → Verdict
first_broken k [] = Ok tt
first_broken k (rule ∷ l) = unless (lowest_broken rule) (broken k) (first_broken (suc k) l)

unfoldable pub verdict : Plan → Verdict
verdict p = first_broken 1 (rules p)

-- The document's numbers of a verdict: the rule (0: accepted) and the row.

unfoldable pub rule_number : Verdict → ℕ
rule_number (Ok u) = 0
rule_number (Err b) = b.rule

unfoldable pub rule_row : Verdict → ℕ
rule_row (Ok u) = 0
rule_row (Err b) = b.row
