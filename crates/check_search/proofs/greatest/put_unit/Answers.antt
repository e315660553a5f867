use Rattle.std.proofs.Common.{rules, ◌≡◌, ◌+◌, ◌-◌, ◌<◌, ◌^◌, length, arith, ap, sym, refl, FitsSigned, subst, set, pos, get_or, ◌+ℤ◌}
use Rattle.std.specs.Prelude.{unsigned_abs}
use Rattle.std.specs.Int.{w128}
use Rattle.std.proofs.lemmas.Int.{to_z-of_z, fits_signed_from_abs}
use Rattle.define_rows.proofs.SumLaws.{abs_sum_le}
use Rattle.define_searches.specs.Weights.{at, IsGreater}
use Rattle.define_searches.proofs.UnitSums.{PutFrom, put_next, put_all}
use Rattle.check_search.proofs.greatest.put_unit.Goals as goal

pub loop-done-preserved : goal.loop-done-preserved
loop-done-preserved c =
    let sums = c.loop-done.sums in let done = c.loop-done.done in let weight = c.args.weight in
    let count = length sums - done - 1 in
    let fr : FitsSigned w128 c.greater.result = search rules in
    let fw : FitsSigned w128 weight = c.ranges.weight in
    let fx : FitsSigned w128 (get_or sums (length sums - done) (pos 0)) = search rules in
    let fy : FitsSigned w128 (get_or sums count (pos 0)) = search rules in
    let from : PutFrom c.args.units weight c.args.sums.now done sums = simp to_z-of_z at c.loop-done.invariant in
    let low = from.low count (omega (arith, from.same)) in
    let narrow : unsigned_abs (at sums count) + unsigned_abs weight < 2 ^ 127 = omega (arith, ap unsigned_abs low, c.requires count (omega (arith, from.same))) in
    let fs : FitsSigned w128 (get_or sums count (pos 0) +ℤ weight) = fits_signed_from_abs w128 _ (omega (arith, narrow, abs_sum_le (at sums count) weight (unsigned_abs (at sums count)) (unsigned_abs weight) (omega arith) (omega arith))) in
    let greater : IsGreater c.args.units (length sums - done) (get_or sums (length sums - done) (pos 0)) (get_or sums count (pos 0) +ℤ weight) c.greater.result = simp to_z-of_z at c.greater.ensures in
    let place : length sums - done ≡ count + 1 = omega (arith, from.same) in
    let next = put_next c.args.units count weight c.args.sums.now done sums _ _ c.greater.result from (omega arith) (omega (arith, from.same)) refl refl
    (subst (λ k. IsGreater c.args.units k (get_or sums k (pos 0)) (get_or sums count (pos 0) +ℤ weight) c.greater.result) place greater) in
    simp to_z-of_z (subst (λ k. PutFrom c.args.units weight c.args.sums.now (done + 1) (set sums k c.greater.result)) (sym place) next)

pub returns : goal.returns
returns c =
    let fw : FitsSigned w128 c.args.weight = c.ranges.weight in
    let from : PutFrom c.args.units c.args.weight c.args.sums.now c.loop-done.done c.loop-done.sums = simp to_z-of_z at c.loop-done.invariant in
    put_all c.args.units c.args.weight c.args.sums.now c.loop-done.done c.loop-done.sums from (omega (arith, from.same)) (λ l. omega (arith, from.same, c.loop-done.auto.done-end l))
