-- `checking::tracks::first_pair`: the rows passed are led to as they may be; in a row, so far, no track leads there that must not.
use lib.ListN.{length}
use Prim.Native.Nat.{ℕ, ◌-◌, ◌<◌}
use mathlib.Core.List.{List}
use mathlib.Core.Path.{◌≡◌, refl, sym, ap, ◌∙◌}
use Rattle.laws.specs.Chains.{same_not}
use Rattle.laws.specs.Search.{lowest, lowest_from, lowest_hit, lowest_miss, lowest_end, lowest_start}
use Rattle.plan.specs.Image.{plan_of}
use Rattle.checking.proofs.Pairs.{led_start, led_skip, led_next, led_bad, led_end}
use Rattle.checking.proofs.tracks.first_pair.Invariants.{misled}
use Rattle.checking.proofs.tracks.first_pair.Goals as goal

pub pairs-init : goal.pairs-init
pairs-init c = (lowest_start _ _, refl)

pub loop-from-init : goal.loop-from-init
loop-from-init c = (led_start _ _, c.pairs.invariant.1)

pub loop-from-preserved-then-not-leads_to : goal.loop-from-preserved-then-not-leads_to
loop-from-preserved-then-not-leads_to c = (led_skip _ _ _ c.loop-from.invariant.0 c.leads_to.ensures c.if-not-leads_to.true, c.loop-from.invariant.1)

pub loop-from-preserved : goal.loop-from-preserved
loop-from-preserved c =
    let (led, none) = c.loop-from.invariant in
    (led_next _ _ _ led c.leads_to.ensures c.if-not-leads_to.false c.misleads.ensures c.if-misleads.false, none)

pub pairs-preserved : goal.pairs-preserved
pairs-preserved c =
    let (led, none) = c.loop-from.invariant in
    (sym (lowest_miss _ _ _ c.pairs-test.true (same_not (led_end _ _ _ led (rw c.tracks-count.ensures at c.loop-from-test.false)))) ∙ c.pairs.invariant.0, none)

pub returns-after-pairs : goal.returns-after-pairs
returns-after-pairs c =
    let image : List ℕ = c.args.image.now in
    let all-rows : lowest_from (misled image) (c.tracks-count.result - c.pairs.to) c.pairs.to ≡ lowest (length (plan_of image).tracks) (misled image) = c.pairs.invariant.0 ∙ ap (λ (n : ℕ). lowest n (misled image)) c.tracks-count.ensures in
    c.pairs.invariant.1 ∙ sym (lowest_end _ _ _ c.pairs-test.false) ∙ all-rows

pub returns-then-misleads : goal.returns-then-misleads
returns-then-misleads c =
    let image : List ℕ = c.args.image.now in
    let all-rows : lowest_from (misled image) (c.tracks-count.result - c.pairs.to) c.pairs.to ≡ lowest (length (plan_of image).tracks) (misled image) = c.pairs.invariant.0 ∙ ap (λ (n : ℕ). lowest n (misled image)) c.tracks-count.ensures in
    let in_row : c.loop-from.from < length (plan_of image).tracks = rw c.tracks-count.ensures at c.loop-from-test.true in
    let told = c.if-not-leads_to.false in
    let bad = led_bad _ _ _ c.loop-from.invariant.0 c.leads_to.ensures told c.misleads.ensures in_row c.if-misleads.true in
    sym (lowest_hit _ _ _ c.pairs-test.true (same_not bad)) ∙ all-rows
