use Rattle.std.proofs.Common.{◌≡◌, pos, unsigned_abs, rules, to_z}
use Rattle.std.specs.Int.{w128}
use Rattle.frac128.specs.Divisors.{gcd_of, IsGreatestCommonDivisor}
use Rattle.frac128.proofs.DivisorLaws.{IsGcd-from_value}
use Rattle.frac128.proofs.gcd.Goals as goal

pub returns-clause-greatest : goal.returns-clause-greatest
unfolding IsGreatestCommonDivisor
returns-clause-greatest c =
    let value : to_z w128 c.common_divisor.result ≡ pos (gcd_of (unsigned_abs c.args.x) (unsigned_abs c.args.y)) = search rules in
    IsGcd-from_value _ _ _ value
