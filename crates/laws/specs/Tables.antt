-- A table: a list given by what stands in each of its cells.
use Rattle.std.specs.Prelude.{◌≡◌, refl, List, [], ◌∷◌, ℕ, zero, suc, ◌<◌, length, get_or}
use Rattle.std.proofs.Common.{sym, ap, ◌∙◌, arith, not-suc-le-zero, ext_get_or}

-- n cells, the i-th being f i
unfoldable pub tab {ℓ} : {A : Type ℓ} → ℕ → (ℕ → A) → List A
tab zero f = []
tab (suc n) f = f zero ∷ tab n (λ k. f (suc k))

pub length_tab {ℓ} : {A : Type ℓ} (n : ℕ) (f : ℕ → A) → length (tab n f) ≡ n
unfolding tab
length_tab zero f = refl
length_tab (suc n) f = ap suc (length_tab n (λ k. f (suc k)))

pub get_or_tab {ℓ} : {A : Type ℓ} (n : ℕ) (f : ℕ → A) (i : ℕ) (d : A) → i < n → get_or (tab n f) i d ≡ f i
unfolding tab
get_or_tab zero f i d h = absurd (not-suc-le-zero h)
get_or_tab (suc n) f zero d h = refl
get_or_tab (suc n) f (suc i) d h = get_or_tab n (λ k. f (suc k)) i d (omega arith)

-- tables with equal cells are equal
pub tab_cong {ℓ} : {A : Type ℓ} (n : ℕ) (f g : ℕ → A) → ((i : ℕ) → i < n → f i ≡ g i) → tab n f ≡ tab n g
unfolding tab
tab_cong zero f g h = refl
tab_cong (suc n) f g h = rw (h 0 (omega arith), tab_cong n (λ k. f (suc k)) (λ k. g (suc k)) (λ i hi. h (suc i) (omega arith)))

-- a list is the table of its elements
pub tab_of {ℓ} : {A : Type ℓ} (l : List A) (n : ℕ) (f : ℕ → A) (d : A) → length l ≡ n → ((i : ℕ) → i < n → get_or l i d ≡ f i) → l ≡ tab n f
tab_of l n f d e h = ext_get_or d l (tab n f) (e ∙ sym (length_tab n f)) (λ i hi. h i (omega arith) ∙ sym (get_or_tab n f i d (omega arith)))
