use Rattle.std.proofs.Common.{ℕ, ◌∙◌, ◌^◌, ◌≡◌, ◌*◌, ◌/◌, ◌<◌, unsigned_abs, inr, ap, sym, subst, rules, arith}
use Rattle.std.proofs.Math.Nat.{div-le_self}
use Rattle.frac128.proofs.DivisorLaws.{gcd_of-positive}
use Rattle.frac128.proofs.FractionLaws.{IsLowest-divided, products-divided}
use Rattle.frac128.proofs.lowest.Goals as goal

pub nonzero_div-result : goal.nonzero_div-result
nonzero_div-result c =
    let some_den : 0 < c.unsigned_abs-den.result = search rules in
    subst (λ g. 0 < g) (sym c.common_divisor-divisor.ensures.value) (gcd_of-positive _ c.unsigned_abs-den.result (inr some_den))

pub nonzero_div-result-2 : goal.nonzero_div-result-2
nonzero_div-result-2 c =
    let some_den : 0 < c.unsigned_abs-den.result = search rules in
    subst (λ g. 0 < g) (sym c.common_divisor-divisor.ensures.value) (gcd_of-positive _ c.unsigned_abs-den.result (inr some_den))

pub invariant_of-result : goal.invariant_of-result
invariant_of-result c =
    let some_den : 0 < c.unsigned_abs-den.result = search rules in
    let num_fits : c.unsigned_abs-num.result < 2 ^ 127 = search rules in
    let den_fits : c.unsigned_abs-den.result < 2 ^ 127 = search rules in
    let num_less = div-le_self c.unsigned_abs-num.result c.common_divisor-divisor.result in
    let den_less = div-le_self c.unsigned_abs-den.result c.common_divisor-divisor.result in
    (omega arith, omega arith, IsLowest-divided _ _ _ c.common_divisor-divisor.ensures.value some_den)

pub returns-clause-same : goal.returns-clause-same
returns-clause-same c =
    let num : ℕ = c.unsigned_abs-num.result in
    let den : ℕ = c.unsigned_abs-den.result in
    let divisor : ℕ = c.common_divisor-divisor.result in
    let num_is : num ≡ unsigned_abs c.args.num = search rules in
    let den_is : den ≡ unsigned_abs c.args.den = search rules in
    ap (λ n. n * (den / divisor)) (sym num_is) ∙ products-divided num den divisor c.common_divisor-divisor.ensures.value ∙ ap (λ n. num / divisor * n) den_is

pub returns-clause-lowest : goal.returns-clause-lowest
returns-clause-lowest c =
    let some_den : 0 < c.unsigned_abs-den.result = search rules in
    IsLowest-divided _ _ _ c.common_divisor-divisor.ensures.value some_den
