-- The lines' bytes, case by case, as the code writes them.
use Prim.Native.Nat.{ℕ}
use mathlib.Core.Path.{◌≡◌, refl}
use mathlib.Core.List.{◌++◌}
use Rattle.events.specs.declared.Refusal.{Refusal}
use Rattle.events.specs.declared.Refusal.TheVariants.{IllFormed, BadEvent, NotRed, Occupied, Held, NotGreen, HomeOccupied, TrainIn, TrainOut, Red}
use Rattle.events.specs.declared.Answer.TheVariants.{Refused}
use Rattle.events.specs.Answers.{refusal_number, refusal_values, answer_values}
use Rattle.lines.specs.Decimal.{decimal}
use Rattle.lines.specs.Lines.{bytes_of, end, line, refusal_words, answer_words, table_number, answer_line}

-- a refusal that names nothing
pub bare_line : (refusal : Refusal) → ((u train : ℕ) → refusal ≡ Occupied u train → ⊥) → ((point : ℕ) → refusal ≡ Held point → ⊥)
    → ((u : ℕ) → refusal ≡ HomeOccupied u → ⊥) → ((s : ℕ) → refusal ≡ Red s → ⊥)
    → answer_line (Refused refusal) ≡ bytes_of "refused " ++ decimal (refusal_number refusal) ++ end
unfolding answer_line answer_words table_number refusal_words answer_values refusal_values line
bare_line IllFormed _ _ _ _ = refl
bare_line BadEvent _ _ _ _ = refl
bare_line NotRed _ _ _ _ = refl
bare_line (Occupied track train) occupied _ _ _ = absurd (occupied track train refl)
bare_line (Held point) _ held _ _ = absurd (held point refl)
bare_line NotGreen _ _ _ _ = refl
bare_line (HomeOccupied track) _ _ home _ = absurd (home track refl)
bare_line TrainIn _ _ _ _ = refl
bare_line TrainOut _ _ _ _ = refl
bare_line (Red signal) _ _ _ red = absurd (red signal refl)
