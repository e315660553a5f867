use Rattle.std.proofs.Common.{refl}
use Rattle.frac128.specs.Divisors.{lcm_of, gcd_of, common_divisor_up_to}
use Rattle.laws_worked.proofs.spreads.close_fractions.Goals as goal

pub returns-clause-multiple : goal.returns-clause-multiple
unfolding lcm_of gcd_of common_divisor_up_to
returns-clause-multiple c = refl
