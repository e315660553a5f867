use Rattle.std.proofs.Common.{◌≡◌, ◌≤◌, ◌+◌, ◌*◌, ℕ, List, [], length, subst, take, ap, sym, ◌∙◌, arith}
use Rattle.define_searches.specs.declared.Bounds.{Bounds}
use Rattle.quota_loosen.specs.Sums.{missed_in, missed_in_all}
use Rattle.quota_loosen.proofs.Missed.{default_same, sums_next}
use Rattle.quota_loosen.proofs.tallies.missed_by_all.Goals as goal

pub loop-category-preserved : goal.loop-category-preserved
loop-category-preserved c =
    let bounds = c.args.bounds.now in let held = c.args.held.now in let later = c.args.later.now in let i = c.loop-category.category in
    let f : ℕ × List Bounds → ℕ = λ (c, values). missed_in values held later c in
    let next = sums_next f bounds i c.index-bounds-category.result c.loop-category-test.true in
    let e = c.missed_by-missed.ensures.value ∙ ap (λ values. missed_in values held later i) (c.as_slice.ensures ∙ c.index-bounds-category.is) in
    let here = c.as_slice.ensures ∙ (c.index-bounds-category.is ∙ default_same bounds i c.index-bounds-category.result [] c.loop-category-test.true) in
    let few : length c.as_slice.result.now ≤ 50 = subst (λ (values : List Bounds). length values ≤ 50) (sym here) (c.requires.held.few i c.loop-category-test.true) in (
      ap (λ missed. missed + c.missed_by-missed.result) c.loop-category.invariant.0 ∙ ap (λ more. missed_in_all (take i bounds) held later + more) e ∙ sym next,
      omega (arith, c.missed_by-missed.ensures.small, c.loop-category.invariant.1, few),
    )
