-- `parse` gives exactly the forms of specs/Forms.antt: its sections fit the whole file, and a file has at most one form. Assumes nothing.
use mathlib.Core.Path.{◌≡◌, refl, sym, ◌∙◌}
use mathlib.Core.Logic.{◌⊎◌, inl, inr, ◌↔◌}
use mathlib.Core.List.{List, [], ◌∷◌}
use Prim.Native.Nat.{ℕ, ◌<◌}
use native.Mathlib.Omega.{arith}
use lib.ListN.{length, take}
use lib.Seq.{length-take-le}
use Rattle.plan.specs.Records.{Plan}
use Rattle.plan.specs.File.{file_of, Readable}
use Rattle.reading.specs.declared.Form.{Form}
use Rattle.reading.specs.declared.Form.TheVariants.{LeftOver}
use Rattle.reading.specs.Reading.{form_number, form_offset, Got, form, got, sections, nothing_left, parse}
use Rattle.reading.proofs.Meaning.{readable_reads, reads_readable, reads_exactly, left_over_lem, same_form}
use Rattle.forms.specs.Forms.{nothing, rest_at, Formed, left_over, Complete, plan_file}
use Rattle.forms.specs.Shown.{OneForm}
use Rattle.forms.proofs.Fits.{Told, Leads}
use Rattle.forms.proofs.Once.{once, not_complete}
use Rattle.forms.proofs.Sections.{sections_fit}

-- what an answer says of a file
abbrev Says : List ℕ → Got Plan → Type 0
Says s (form f) = Formed plan_file s (form_number f) (form_offset f)
Says s (got p at left) = Complete plan_file s

says : (s : List ℕ) → Says s (parse s)
unfolding parse rest_at
says s = go (sections 0 s) (sections_fit.leads 0 s)
  where
    place : (f : Form) → Told plan_file 0 s (form f) → Formed plan_file s (form_number f) (form_offset f)
    place f w = let e : form_offset f ≡ w.0 = omega (arith, w.1) in rw e w.2

    over : (b : ℕ) (left : List ℕ) → Formed nothing (b ∷ left) 5 0
    over b left = left_over 0 (λ i h. absurd (omega arith)) (omega arith) refl

    none : Complete nothing []
    none = record { right = λ i h. absurd (omega arith); end = refl }

    go : (g : Got Plan) → Leads plan_file (λ p. nothing) 0 s g → Says s (nothing_left g)
    go (form f) w = place f w
    go (got p at []) w = w (got tt 0 []) none
    go (got p at (b ∷ left)) w = place (LeftOver at) (w (form (LeftOver at)) (0, omega arith, over b left))

told : (s : List ℕ) {g : Got Plan} → parse s ≡ g → Says s g
told s e = rw e at (says s)

-- Reading gives a form exactly if the table of forms has its number at its offset.
pub form_exactly : (s : List ℕ) (f : Form) → (parse s ≡ form f) ↔ Formed plan_file s (form_number f) (form_offset f)
form_exactly s f = (told s, λ w. back w (parse s) refl)
  where
    back : Formed plan_file s (form_number f) (form_offset f) → (g : Got Plan) → parse s ≡ g → parse s ≡ form f
    back w (form g) e = let x = once (told s e) w in rw (e, same_form g f x.0 x.1)
    back w (got p k left) e = absurd (not_complete w (told s e))

-- Reading gives a plan exactly if every byte is right and nothing more is due.
pub plans_exactly : (s : List ℕ) → ((p : Plan) × (parse s ≡ got p (length s) [])) ↔ Complete plan_file s
plans_exactly s = (λ (p, e). told s e, λ w. back w (parse s) refl)
  where
    back : Complete plan_file s → (g : Got Plan) → parse s ≡ g → (p : Plan) × (parse s ≡ got p (length s) [])
    back w (form f) e = absurd (not_complete (told s e) w)
    back w (got p k left) e = let x = reads_readable s e in (p, rw (← x.2, ← x.3) e)

-- Every file is complete or has a form, one number at one offset. It is complete exactly if it is a readable plan's file, and bytes are left over where
-- such a file has ended.
pub one_form_lem : (s : List ℕ) → OneForm s
one_form_lem s = record {
  some = answer (parse s) (says s);
  apart = λ n at. not_complete;
  once = λ n m at k. once;
  plans = plans;
  over = λ at. (over_forth at, over_back at);
}
  where
    answer : (g : Got Plan) → Says s g → Complete plan_file s ⊎ ((n : ℕ) × (at : ℕ) × Formed plan_file s n at)
    answer (form f) w = inr (_, _, w)
    answer (got p k left) w = inl w

    plans : Complete plan_file s ↔ ((p : Plan) × Readable p × (s ≡ file_of p))
    plans = (
      λ w. (let (p, e) = (plans_exactly s).1 w in let x = (reads_exactly s p).0 e in (p, x.1, x.0)),
      λ w. (let (p, ok, e) = w in (plans_exactly s).0 (p, (reads_exactly s p).1 (e, ok))),
    )

    over_forth : (at : ℕ) → Formed plan_file s 5 at → Complete plan_file (take at s) × (at < length s)
    over_forth at w =
        let (h, (p, e)) = (left_over_lem s at).0 ((form_exactly s (LeftOver at)).1 w) in
        (told (take at s) e, h)

    over_back : (at : ℕ) → Complete plan_file (take at s) × (at < length s) → Formed plan_file s 5 at
    over_back at w =
        let (p, e) = (plans_exactly (take at s)).1 w.0 in
        let k = length-take-le at s (omega (arith, w.1)) in
        (form_exactly s (LeftOver at)).0 ((left_over_lem s at).1 (w.1, (p, rw k at e)))

-- So the file of a plan and the table of forms leave no choice: whatever reads so is `parse`.
pub parse_only : (read : List ℕ → Got Plan) → ((p : Plan) → Readable p → read (file_of p) ≡ got p (length (file_of p)) []) →
    ((s : List ℕ) (f : Form) → Formed plan_file s (form_number f) (form_offset f) → read s ≡ form f) → (s : List ℕ) → read s ≡ parse s
parse_only read plans forms s = go (parse s) refl
  where
    go : (g : Got Plan) → parse s ≡ g → read s ≡ parse s
    go (form f) e = rw e (forms s f (told s e))
    go (got p k left) e = let (z, ok, x, y) = reads_readable s e in rw z (plans p ok ∙ sym (readable_reads p ok))
