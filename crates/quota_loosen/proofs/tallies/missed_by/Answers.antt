use Rattle.std.proofs.Common.{◌≡◌, ◌≤◌, ◌<◌, ◌+◌, ◌*◌, ℕ, take, ap, sym, ◌∙◌, arith}
use Rattle.std.specs.Prelude.{slice_index}
use Rattle.std.proofs.lemmas.List.Elements.{All-get_or}
use Rattle.define_quotas.specs.Costs.{surely_missed}
use Rattle.define_searches.specs.declared.Bounds.{Bounds}
use Rattle.define_searches.specs.Tallies.{cell}
use Rattle.quota_loosen.specs.Sums.{missed_in}
use Rattle.quota_loosen.proofs.Missed.{sums_next}
use Rattle.quota_loosen.proofs.tallies.missed_by.Goals as goal

pub loop-value-preserved : goal.loop-value-preserved
loop-value-preserved c =
    let values = c.args.values.now in let held = c.args.held.now in let later = c.args.later.now in let category = c.args.category in let i = c.loop-value.value in
    let none : Bounds = record { lower = 0; upper = 0 } in
    let f : ℕ × Bounds → ℕ = λ (v, bound). surely_missed bound (slice_index held (cell category v)) (slice_index later (cell category v)) in
    let next = sums_next f values i none c.loop-value-test.true in
    let limits = All-get_or (λ (bound : Bounds). (bound.lower ≤ bound.upper) × (bound.upper ≤ 999)) values i none c.loop-value-test.true c.requires.limits in
    let place : i < 50 = omega (arith, c.loop-value-test.true, c.requires.few) in
    let number = c.requires.small i place in
    let e = c.surely-missed.ensures in
    let low = limits.0 in let high = limits.1 in (
      ap (λ missed. missed + c.surely-missed.result) c.loop-value.invariant.0 ∙ ap (λ more. missed_in (take i values) held later category + more) e ∙ sym next,
      omega (arith, e, c.loop-value.invariant.1, low, high, number),
    )
