-- What the verdict says: accepted exactly when every rule's sentence holds of every row; rule k row i exactly when rule k is the lowest that is
-- broken and i its lowest row.
use Rattle.std.specs.Prelude.{Err, Ok}
use mathlib.Core.Path.{◌≡◌, refl, subst}
use mathlib.Core.Bool.{false, not}
use mathlib.Core.Logic.{inl, inr, ◌↔◌}
use mathlib.Core.List.{List, [], ◌∷◌}
use Prim.Native.Nat.{ℕ, zero, suc, ◌+◌, ◌<◌, ◌≤◌}
use native.Mathlib.Omega.{arith}
use native.Mathlib.Nat.{not-suc-le-zero}
use lib.ListN.{length, get_or, get_or-eq_default}
use Rattle.laws.specs.Tests.{fails, clash, same?, below?, not_t, not_f}
use Rattle.laws.specs.Lists.{All, has}
use Rattle.laws.specs.Search.{lowest, lowest_from, lowest_at, lowest_none, unless, unless_ind}
use Rattle.plan.specs.Records.{Plan, route_of, entry_of}
use Rattle.plan.specs.Routes.{path_length}
use Rattle.rules.specs.Rules.{path_clear, entry_clear}
use Rattle.rules.specs.Verdict.{Rule, rules, no_rule, rule_of, Sound, Breaks, lowest_broken, first_broken, verdict, rule_number, Verdict, broken}
use Rattle.rules.proofs.Meaning.{path_clear_is, Tied, tied}

-- What a search through a list of rules finds.

abbrev Kept : List Rule → Type 0
Kept l = (k i : ℕ) → i < (get_or l k no_rule).rows → (get_or l k no_rule).sentence i

record First (l : List Rule) (k i : ℕ) : Type 0 where
  lower : (j row : ℕ) → j < k → row < (get_or l j no_rule).rows → (get_or l j no_rule).sentence row
  inside : i < (get_or l k no_rule).rows
  before : (row : ℕ) → row < i → (get_or l k no_rule).sentence row
  fails : (get_or l k no_rule).sentence i → ⊥

-- what is found in a list whose first rule has number n
abbrev Finds : ℕ → List Rule → Verdict → Type 0
Finds n l (Ok u) = Kept l
Finds n l (Err b) = (j : ℕ) × (b.rule ≡ n + j) × First l j b.row

finds : (n : ℕ) (l : List Rule) → All Tied l → Finds n l (first_broken n l)
unfolding All first_broken lowest_broken
finds n [] t = λ k i h. absurd (not-suc-le-zero h)
finds n (rule ∷ l) (t, ts) = unless_ind (Finds n (rule ∷ l)) _ _ _
    (λ i e. let w = lowest_at rule.rows (λ i. not (rule.test i)) e in (
      0,
      omega arith,
      record {
        lower = λ j row h. absurd (not-suc-le-zero h);
        inside = w.below;
        before = λ row h. (t row).0 (not_f (rule.test row) (w.first row h));
        fails = λ s. clash ((t i).1 s) (not_t (rule.test i) w.passes);
      },
    ))
    (λ e. on (λ i h. (t i).0 (not_f (rule.test i) (lowest_none rule.rows (λ i. not (rule.test i)) e i h))) (first_broken (suc n) l) (finds (suc n) l ts))
  where
    on : ((i : ℕ) → i < rule.rows → rule.sentence i) → (v : Verdict) → Finds (suc n) l v → Finds n (rule ∷ l) v
    on f (Ok u) w = kept
      where
        kept : Kept (rule ∷ l)
        kept zero = f
        kept (suc k) = w k
    on f (Err b) (j, e, w) = (suc j, omega arith, record { lower = lower; inside = w.inside; before = w.before; fails = w.fails })
      where
        lower : (j' row : ℕ) → j' < suc j → row < (get_or (rule ∷ l) j' no_rule).rows → (get_or (rule ∷ l) j' no_rule).sentence row
        lower zero row h = f row
        lower (suc j') row h = w.lower j' row (omega arith)

module _ (p : Plan) where
  -- what a verdict says of the plan
  abbrev pub Says : Verdict → Type 0
  Says (Ok u) = Sound p
  Says (Err b) = Breaks p b.rule b.row

  pub says : Says (verdict p)
  unfolding All verdict first_broken lowest_broken lowest lowest_from unless rule_of
  says = of (verdict p) (finds 0 (no_rule ∷ rules p) (λ i. (λ e. tt, λ s. refl), tied p))
    where
      of : (v : Verdict) → Finds 0 (no_rule ∷ rules p) v → Says v
      of (Ok u) w = record { says = w }
      of (Err b) (j, e, w) = let z : b.rule ≡ j = omega arith in rw z (record { lower = w.lower; inside = w.inside; before = w.before; fails = w.fails })

  -- no two are first
  pub broken_once : (k i j m : ℕ) → Breaks p k i → Breaks p j m → (k ≡ j) × (i ≡ m)
  broken_once k i j m a b = elim (same? k j) [
    | inl e ↦ (e, row (rw e at a))
    | inr n ↦ (elim (below? k j) [
      | inl h ↦ absurd (a.fails (b.lower k i h a.inside))
      | inr h ↦ absurd (b.fails (a.lower j m (omega arith) b.inside))
    ])
  ]
    where
      row : Breaks p j i → i ≡ m
      row c = elim (same? i m) [
        | inl e ↦ e
        | inr n ↦ (elim (below? i m) [ inl h ↦ absurd (c.fails (b.before i h)) | inr h ↦ absurd (b.fails (c.before m (omega arith))) ])
      ]

  -- nothing is broken where all is sound
  none : (k i : ℕ) → Sound p → Breaks p k i → ⊥
  none k i s b = b.fails (s.says k i b.inside)

  -- a plan is accepted exactly when every rule says so of each of its rows
  pub accepted_exactly : (verdict p ≡ Ok tt) ↔ Sound p
  accepted_exactly = (λ e. rw e at says, from (verdict p) says)
    where
      from : (v : Verdict) → Says v → Sound p → v ≡ Ok tt
      from (Ok u) w s = refl
      from (Err b) w s = absurd (none b.rule b.row s w)

  -- rule k row i is the verdict exactly when rule k is the lowest that is broken and i its lowest row
  pub verdict_exactly : (k i : ℕ) → (verdict p ≡ broken k i) ↔ Breaks p k i
  verdict_exactly k i = (λ e. rw e at says, from (verdict p) says)
    where
      from : (v : Verdict) → Says v → Breaks p k i → v ≡ broken k i
      from (Ok u) w b = absurd (none k i w b)
      from (Err b) w q = let (d, e) = broken_once b.rule b.row k i w q in rw (← d, ← e) refl

  -- the rule that a verdict names is one of the list
  pub number_listed : rule_number (verdict p) ≤ length (rules p)
  unfolding rule_number rule_of
  number_listed = of (verdict p) says
    where
      of : (v : Verdict) → Says v → rule_number v ≤ length (rules p)
      of (Ok u) w = omega arith
      of (Err b) w = elim (below? (length (rules p)) b.rule) [
        | inl h ↦ absurd (not-suc-le-zero (subst (λ (rule : Rule). b.row < rule.rows) (get_or-eq_default (no_rule ∷ rules p) no_rule h) w.inside))
        | inr h ↦ h
      ]

  -- Empty lists: a route's path has a track, so an empty clear list breaks rule 8; an empty clear list of an entry breaks rule 12.

  pub empty_clear_breaks : (r : ℕ) → 0 < path_length p r → (route_of p r).clear ≡ [] → path_clear p r ≡ false
  empty_clear_breaks r h e = fails (path_clear p r) (λ t. let w = rw e at ((path_clear_is p r).0 t (get_or (route_of p r).path 0 0) (0, h, refl)) in not-suc-le-zero w.1)

  pub empty_entry_breaks : (e : ℕ) → (entry_of p e).clear ≡ [] → entry_clear p e ≡ false
  unfolding entry_clear has
  empty_entry_breaks e h = rw h
