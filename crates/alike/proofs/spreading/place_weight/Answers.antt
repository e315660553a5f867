use Rattle.std.proofs.Common.{◌≡◌, ◌≤◌, ◌*◌, ◌/◌, sym, arith, subst, rules, FitsSigned}
use Rattle.std.specs.Int.{w128}
use Rattle.alike.proofs.ArcRows.{place_weighs}
use Rattle.alike.proofs.Words128.{unsigned_is}
use Rattle.alike.proofs.spreading.place_weight.Goals as goal

pub overflow_mul-result : goal.overflow_mul-result
overflow_mul-result c =
    let fit : FitsSigned w128 c.den.result = search rules in
    let den : c.unsigned_abs-den.result ≡ c.args.fraction.den = unsigned_is c.unsigned_abs-den.result c.den.result c.args.fraction.den c.unsigned_abs-den.ensures.value fit c.den.ensures.value in
    let weighs = place_weighs c.args.fraction.num c.args.fraction.den c.args.places c.args.total c.den.ensures.lowest.0 c.requires.places c.requires.total.0 c.requires.multiple c.requires.holds_part in
    let product : c.unsigned_abs-den.result * c.args.places ≤ c.args.total = subst (λ n. n * c.args.places ≤ c.args.total) (sym den) weighs.product in
    let below = c.ranges.total.fits in
    omega arith

pub overflow_mul-result-2 : goal.overflow_mul-result-2
overflow_mul-result-2 c =
    let fit : FitsSigned w128 c.den.result = search rules in
    let fits : FitsSigned w128 c.num.result = search rules in
    let den : c.unsigned_abs-den.result ≡ c.args.fraction.den = unsigned_is c.unsigned_abs-den.result c.den.result c.args.fraction.den c.unsigned_abs-den.ensures.value fit c.den.ensures.value in
    let num : c.unsigned_abs-num.result ≡ c.args.fraction.num = unsigned_is c.unsigned_abs-num.result c.num.result c.args.fraction.num c.unsigned_abs-num.ensures.value fits c.num.ensures.value in
    let weighs = place_weighs c.args.fraction.num c.args.fraction.den c.args.places c.args.total c.den.ensures.lowest.0 c.requires.places c.requires.total.0 c.requires.multiple c.requires.holds_part in
    let small : c.unsigned_abs-num.result * (c.args.total / (c.unsigned_abs-den.result * c.args.places)) ≤ c.args.total =
    subst (λ n. n * (c.args.total / (c.unsigned_abs-den.result * c.args.places)) ≤ c.args.total) (sym num) (subst (λ n. c.args.fraction.num * (c.args.total / (n * c.args.places)) ≤ c.args.total) (sym den) weighs.small) in
    let below = c.ranges.total.fits in
    omega arith

pub returns-clause-within : goal.returns-clause-within
returns-clause-within c =
    let fit : FitsSigned w128 c.den.result = search rules in
    let fits : FitsSigned w128 c.num.result = search rules in
    let den : c.unsigned_abs-den.result ≡ c.args.fraction.den = unsigned_is c.unsigned_abs-den.result c.den.result c.args.fraction.den c.unsigned_abs-den.ensures.value fit c.den.ensures.value in
    let num : c.unsigned_abs-num.result ≡ c.args.fraction.num = unsigned_is c.unsigned_abs-num.result c.num.result c.args.fraction.num c.unsigned_abs-num.ensures.value fits c.num.ensures.value in
    let weighs = place_weighs c.args.fraction.num c.args.fraction.den c.args.places c.args.total c.den.ensures.lowest.0 c.requires.places c.requires.total.0 c.requires.multiple c.requires.holds_part in
    subst (λ n. c.args.places * (n * (c.args.total / (c.unsigned_abs-den.result * c.args.places))) ≤ c.args.total) (sym num)
    (subst (λ n. c.args.places * (c.args.fraction.num * (c.args.total / (n * c.args.places))) ≤ c.args.total) (sym den) weighs.whole)
