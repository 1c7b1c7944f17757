-- What a chain of iterators finds in a list: the first that passes.
use Rattle.std.specs.Prelude.{◌≡◌, refl, Bool, List, [], ◌∷◌, ℕ, zero, suc, ◌+◌, true, false, ◌<◌, ◌≤◌, length, get_or, drop, map, find, None, Option, Some}
use Rattle.std.specs.Bool.{⊤}
use Rattle.std.specs.Fn.{CalledAt}
use Rattle.std.specs.Iterator.{YieldsThen, CallableAtEachTurn}
use Rattle.std.specs.List.{FoldsTo}
use Rattle.std.specs.Option.{MatchOption, option_map}
use Rattle.std.proofs.Common.{ap, sym, ◌∙◌, inl, inr, arith}
use Rattle.std.proofs.lemmas.Iterator.{YieldsList}
use Rattle.std.proofs.lemmas.Iterator.Adapters.{serves_from_places}
use Rattle.std.proofs.lemmas.Iterator.Search.{find_from_yields_List}
use denote.Param.Members.{Mut}
use denote.Ref.{Bor}
use Rattle.laws.specs.Tests.{below?}
use Rattle.laws.specs.Lists.{All, all_at, walk_step, walk_end}
use Rattle.decide.specs.Along.{first_of}
use Rattle.decide.proofs.Loops.{Walked, walk_met, walk_on, walk_over}

same_option : {A : Type 0} (o : Option A) → option_map (λ x. x) o ≡ o
same_option None = refl
same_option (Some x) = refl

same_list : {A : Type 0} (l : List A) → map (λ x. x) l ≡ l
same_list [] = refl
same_list (x ∷ l) = ap (λ k. x ∷ k) (same_list l)

-- A chain goes the way of a walk: what is left of the list from a place on, of at most k elements, finds what the whole does.
found_walk : (f : ℕ → Bool) (l : List ℕ) (i k : ℕ) → length l ≤ i + k → Walked f l 0 i → find f (drop i l) ≡ first_of f l
found_walk f l i zero h w = walk_end l i (find f) (omega arith) ∙ walk_over w (omega arith)
found_walk f l i (suc k) h w = elim (below? i (length l)) [
  | inl b ↦ go b (f (get_or l i 0)) refl (λ on. found_walk f l (i + 1) k (omega arith) on)
  | inr b ↦ walk_end l i (find f) b ∙ walk_over w b
]
  where
    go : i < length l → (b : Bool) → f (get_or l i 0) ≡ b → (Walked f l 0 (i + 1) → find f (drop (i + 1) l) ≡ first_of f l) → find f (drop i l) ≡ first_of f l
    go h true t on = let hit : find f (get_or l i 0 ∷ drop (i + 1) l) ≡ Some (get_or l i 0) = rw t in walk_step l i (find f) h ∙ hit ∙ walk_met w h refl t
    go h false t on = let miss : find f (get_or l i 0 ∷ drop (i + 1) l) ≡ find f (drop (i + 1) l) = rw t in walk_step l i (find f) h ∙ miss ∙ on (walk_on w h refl t)

found_first : (f : ℕ → Bool) (l : List ℕ) → find f l ≡ first_of f l
found_first f l = found_walk f l 0 (length l) (omega arith) record { left = refl }

-- What `find` ensures of its run, and what each call of the closure says.
pub first_found : {S F : Type 0} {steps : S → Option ℕ → S → Type 0} {g : Mut F (Bor ℕ × Unit {0}) Bool} {s : S} (f : ℕ → Bool) (l : List ℕ) (u : S) (p : F) (r : Option ℕ)
    → (xs : List ℕ) × (j : F) × YieldsThen steps s xs r u × FoldsTo (λ q x v. CalledAt g q x false v) p xs j × MatchOption r ⊤ (λ x. (h : F) × CalledAt g j x true h)
    → YieldsList steps (λ x. x) s (map (λ x. x) l)
    → ((x : ℕ) (b : Bool) (q : F) → CalledAt g p x b q → (q ≡ p) × (b ≡ f x)) → r ≡ first_of f l
first_found f l u p r ran road call = sym (same_option r) ∙ find_from_yields_List f u p r ran (rw (same_list l) at road) call ∙ found_first f l

-- The closure may be called at each element of a list of which all are below a number.
pub all_callable : {S F : Type 0} {steps : S → Option ℕ → S → Type 0} {s : S} {n : ℕ} (l : List ℕ) {R : F → ℕ → F → Type 0} {Q : F → ℕ → Type 0} {p : F}
    → All (λ u. u < n) l → YieldsList steps (λ x. x) s (map (λ x. x) l)
    → ((x : ℕ) (q : F) → R p x q → q ≡ p) → ((x : ℕ) → x < n → Q p x) → CallableAtEachTurn steps R Q s p
all_callable l w road same asked = serves_from_places (rw (same_list l) at road) same (λ x k h e. asked x (omega (arith, e, all_at _ l k x w h)))

-- The closure is lent the element.
pub lent_below : {n x : ℕ} → x < n → (y : ℕ) → y ≡ x → y < n
lent_below h y e = rw e h
