-- The codes of the kinds: a number is the code of one kind at most, and of none from `kinds` on. So what `Kind::try_from` gives of a number is one.
use Rattle.std.specs.Prelude.{◌≡◌, ℕ, ◌≤◌, ◌<◌, cond, eqb, Result, Ok, Err, MatchResult}
use Rattle.std.proofs.Common.{refl, sym, ap, ◌∙◌, arith}
use Rattle.plan.specs.Kinds.{kinds, code_of}
use Rattle.plan.specs.declared.Kind.{Kind}
use Rattle.plan.specs.declared.Kind.TheVariants.{Plain, Facing, Trailing, Exit}
use Rattle.plan.specs.declared.NoKind.{NoKind}

abbrev kind_of : ℕ → Kind
kind_of code = cond (eqb code 0) Plain (cond (eqb code 1) Facing (cond (eqb code 2) Trailing Exit))

kind_again : (kind : Kind) → kind_of (code_of kind) ≡ kind
kind_again Plain = refl
kind_again Facing = refl
kind_again Trailing = refl
kind_again Exit = refl

code_below : (kind : Kind) → code_of kind < kinds
code_below Plain = omega arith
code_below Facing = omega arith
code_below Trailing = omega arith
code_below Exit = omega arith

pub kind_once : (code : ℕ) (x y : Result Kind NoKind) → MatchResult x (λ kind. code_of kind ≡ code) (λ _. kinds ≤ code)
    → MatchResult y (λ kind. code_of kind ≡ code) (λ _. kinds ≤ code) → x ≡ y
kind_once code (Ok a) (Ok b) p q = ap Ok (sym (kind_again a) ∙ ap kind_of (p ∙ sym q) ∙ kind_again b)
kind_once code (Ok a) (Err e) p q = absurd (omega (arith, code_below a, p, q))
kind_once code (Err e) (Ok b) p q = absurd (omega (arith, code_below b, p, q))
kind_once code (Err e) (Err d) p q = refl
