use Rattle.std.proofs.Common.{ℕ, ◌∙◌, ◌≡◌, ◌*◌, ◌/◌, ◌<◌, ◌≤◌, inl, ap, sym, subst, arith}
use Rattle.std.proofs.Math.Nat.{le-div_iff_mul-le}
use Rattle.frac128.specs.Divisors.{lcm_of}
use Rattle.frac128.proofs.DivisorLaws.{gcd_of-positive, beyond-positive}
use Rattle.frac128.proofs.common_multiple.Goals as goal

pub nonzero_div-factor : goal.nonzero_div-factor
nonzero_div-factor c = subst (λ g. 0 < g) (sym c.common_divisor.ensures.value) (gcd_of-positive c.args.x c.args.y (inl c.requires))

pub nonzero_div-limit : goal.nonzero_div-limit
nonzero_div-limit c = beyond-positive c.args.x c.args.y _ c.common_divisor.ensures.value c.requires

pub returns-then-y-limit : goal.returns-then-y-limit
unfolding lcm_of
returns-then-y-limit c =
    let factor : ℕ = c.args.x / c.common_divisor.result in
    let some : 0 < factor = beyond-positive c.args.x c.args.y _ c.common_divisor.ensures.value c.requires in
    let product : factor * c.args.y ≡ lcm_of c.args.x c.args.y = ap (λ g. c.args.x / g * c.args.y) c.common_divisor.ensures.value in
    let fits : c.args.y * factor ≤ c.args.limit = (le-div_iff_mul-le some).0 c.if-y-limit.true in
    let turned : c.args.y * factor ≡ factor * c.args.y = omega arith in
    (subst (λ n. n ≤ c.args.limit) (turned ∙ product) fits, product)

pub returns-else-y-limit : goal.returns-else-y-limit
unfolding lcm_of
returns-else-y-limit c within =
    let factor : ℕ = c.args.x / c.common_divisor.result in
    let some : 0 < factor = beyond-positive c.args.x c.args.y _ c.common_divisor.ensures.value c.requires in
    let product : factor * c.args.y ≡ lcm_of c.args.x c.args.y = ap (λ g. c.args.x / g * c.args.y) c.common_divisor.ensures.value in
    let turned : c.args.y * factor ≡ factor * c.args.y = omega arith in
    let fits : c.args.y * factor ≤ c.args.limit = subst (λ n. n ≤ c.args.limit) (sym (turned ∙ product)) within in
    let below : c.args.y ≤ c.args.limit / factor = (le-div_iff_mul-le some).1 fits in
    omega arith
