-- What no program that forgets can meet: one that leaves the same state, or nothing unfinished, whatever it began with, does not serve, however many
-- bytes it reads. So it is with one that sets the state anew at any turn.
use mathlib.Core.Path.{◌≡◌, refl, sym, ap, ◌∙◌}
use mathlib.Core.List.{List, [], ◌∷◌, ◌++◌}
use Prim.Native.Nat.{ℕ, ◌+◌, ◌%◌, ◌≤◌}
use native.Mathlib.Omega.{arith}
use lib.ListN.{length, length-append}
use Rattle.reading.specs.Reading.{got, parse}
use Rattle.state.specs.declared.State.{State}
use Rattle.state.specs.State.{fresh}
use Rattle.events.specs.Events.{left_over, unfinished_cells}
use Rattle.events.proofs.Pieces.{left_length, cells_hold}
use Rattle.demands.specs.Session.{Between, state_after, fed}
use Rattle.demands.proofs.Alone.{alone_file, alone, alone_reads, turned, turned_formed, turned_not_fresh, turned_stays, fresh_stays}
use Rattle.codes.specs.Codes.{read_code}
use Rattle.signalbox.specs.Face.{in_the_way}
use Rattle.signalbox.proofs.Feeding.{brief, fresh_free}
use Rattle.bench.specs.Serving.{Serves, ServedOn}

-- A place to begin: the point alone lies reverse, and no byte or one is unfinished.
begun : (unfinished : List ℕ) → length unfinished ≤ 1 → Serves (parse alone_file) turned (unfinished_cells unfinished)
unfolding in_the_way
begun u h = record { free = rw (alone_reads, turned_formed); few = brief u (omega arith) }

-- the fresh state
fresh_begun : Serves (parse alone_file) fresh (unfinished_cells [])
unfolding read_code
fresh_begun = record { free = fresh_free alone_file fresh refl (rw alone_reads reads); few = brief [] (omega arith) }
  where
    reads : read_code (got alone 8 []) ≡ 0
    reads = refl

-- whatever state it leaves: one that doesn't come of the state that it began with
pub state_anew : (count : ℕ) (τ : State) → ((file : List ℕ) (σ : State) (unfinished : List ℕ) → Serves (parse file) σ unfinished
    → (unfinished' : List ℕ) × ServedOn (parse file) σ unfinished count τ unfinished') → ⊥
unfolding fed state_after
state_anew count τ always =
    let w = (always alone_file turned (unfinished_cells []) (begun [] (omega arith))).1.served.stands in
    let v = (always alone_file fresh (unfinished_cells []) fresh_begun).1.served.stands in
    let s : τ ≡ turned = rw alone_reads at (ap (λ (b : Between). b.state) w) ∙ turned_stays _ in
    let f : τ ≡ fresh = rw alone_reads at (ap (λ (b : Between). b.state) v) ∙ fresh_stays _ in
    turned_not_fresh (sym s ∙ f)

pub unfinished_lost : (count : ℕ) → ((file : List ℕ) (σ : State) (unfinished : List ℕ) → Serves (parse file) σ unfinished
    → (τ : State) × ServedOn (parse file) σ unfinished count τ (unfinished_cells [])) → ⊥
unfolding fed
unfinished_lost count always = let none = left [] (omega arith) in let one = left (0 ∷ []) (omega arith) in omega arith
  where
    left : (x : List ℕ) → length x ≤ 1 → (length x + count) % 3 ≡ 0
    left x h =
        let w = (always alone_file turned (unfinished_cells x) (begun x h)).1 in
        let u = ap (λ (b : Between). length b.unfinished) w.served.stands in
        let z : length (left_over (x ++ w.bytes)) ≡ 0
        = ap (λ (y : List ℕ). length (left_over (y ++ w.bytes))) (sym (cells_hold x (omega arith))) ∙ sym u ∙ ap (λ (y : List ℕ). length y) (cells_hold [] (omega arith)) in
        rw (← w.many, ← length-append x w.bytes) (sym (left_length (x ++ w.bytes)) ∙ z)
