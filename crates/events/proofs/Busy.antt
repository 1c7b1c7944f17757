-- The chain goes on past 13 where nobody is met, and who is met stands on the track that was found.
use Rattle.std.specs.Prelude.{None, Option, Some}
use mathlib.Core.Path.{◌≡◌, refl, sym, ap, ◌∙◌}
use mathlib.Core.List.{List}
use Prim.Native.Nat.{ℕ}
use lib.ListN.{get_or}
use Rattle.laws.specs.Search.{lowest}
use Rattle.laws.specs.Tests.{never}
use Rattle.state.specs.State.{no_train}
use Rattle.events.specs.declared.Answer.{Answer}
use Rattle.events.specs.Decide.{busy, with_train, busy_train, unless_train}

pub unless_train_ind : (Q : Answer → Type 0) (met : Option (ℕ × ℕ)) (f : ℕ → ℕ → Answer) (rest : Answer) → ((u train : ℕ) → met ≡ Some (u, train) → Q (f u train)) → (met ≡ None → Q rest)
    → Q (unless_train met f rest)
unfolding unless_train
unless_train_ind Q (Some (u, train)) f rest h k = h u train refl
unless_train_ind Q None f rest h k = k refl

-- the track and the train that were met
track : Option (ℕ × ℕ) → ℕ
track (Some (u, train)) = u
track None = 0

train : Option (ℕ × ℕ) → ℕ
train (Some (u, t)) = t
train None = no_train

pub busy_train_at : (n : ℕ) (clear trains : List ℕ) {u t : ℕ} → busy_train n clear trains ≡ Some (u, t) → (lowest n (busy clear trains) ≡ Some u) × (get_or trains u no_train ≡ t)
unfolding busy_train track train
busy_train_at n clear trains {u} {t} = go (lowest n (busy clear trains))
  where
    go : (o : Option ℕ) → with_train trains o ≡ Some (u, t) → (o ≡ Some u) × (get_or trains u no_train ≡ t)
    go (Some x) e = let same : x ≡ u = ap track e in (ap Some same, sym (ap (λ v. get_or trains v no_train) same) ∙ ap train e)
    go None e = never (cc)
