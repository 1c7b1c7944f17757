-- A small plan to show impostors on: trains enter on track 0, a home, which leads to the exit 1. With its entry's clear list it is sound; with
-- none, a second train can be let in behind the first.
use mathlib.Core.Path.{refl}
use mathlib.Core.List.{List, [], ◌∷◌}
use Prim.Native.Nat.{ℕ, ◌<◌}
use native.Mathlib.Omega.{arith}
use Rattle.laws.specs.Lists.{All}
use Rattle.plan.specs.Limits.{most_clear}
use Rattle.plan.specs.Kinds.{plain_kind, exit_kind, limit_of, uses}
use Rattle.plan.specs.Records.{Plan}
use Rattle.plan.specs.File.{Rises, Within, Readable}
use Rattle.rules.specs.Verdict.{Sound}
use Rattle.rules.proofs.Computed.{computed}
use Rattle.rules.proofs.Verdicts.{accepted_exactly}

unfoldable pub small : List ℕ → Plan
small clear = record {
  tracks = record { kind = plain_kind; first = 1; second = 0; third = 0 } ∷ record { kind = exit_kind; first = 0; second = 0; third = 0 } ∷ [];
  signals = 0 ∷ [];
  routes = [];
  entries = record { track = 0; clear = clear } ∷ [];
}

small_reads : (clear : List ℕ) → Within 0 most_clear (λ u. u < 2) clear → Rises clear → Readable (small clear)
unfolding small All limit_of uses
small_reads clear w rises = record {
  tracks = record {
    enough = omega arith;
    few = omega arith;
    each = (
      record { kind = omega arith; first = omega arith; second = omega arith; third = omega arith },
      (record { kind = omega arith; first = omega arith; second = omega arith; third = omega arith }, tt),
    );
  };
  signals = record { enough = omega arith; few = omega arith; each = (omega arith, tt) };
  signals_rise = λ i h. absurd (omega arith);
  routes = record { enough = omega arith; few = omega arith; each = tt };
  entries = record { enough = omega arith; few = omega arith; each = (record { track = omega arith; clear = w; clear_rises = rises }, tt) };
  entries_rise = λ i h. absurd (omega arith);
}

pub bare_reads : Readable (small [])
unfolding All
bare_reads = small_reads [] (record { enough = omega arith; few = omega arith; each = tt }) (λ i h. absurd (omega arith))

pub sound_reads : Readable (small (0 ∷ []))
unfolding All
sound_reads = small_reads (0 ∷ []) (record { enough = omega arith; few = omega arith; each = (omega arith, tt) }) (λ i h. absurd (omega arith))

pub small_sound : Sound (small (0 ∷ []))
unfolding computed small
small_sound = (accepted_exactly (small (0 ∷ []))).0 refl
