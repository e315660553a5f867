use Rattle.std.proofs.Common.{refl}
use Rattle.frac128.specs.Divisors.{lcm_of, gcd_of, common_divisor_up_to}
use Rattle.define_runs.specs.Spreading.{spread}
use Rattle.define_runs.proofs.spreads.worked_spread.Goals as goal

pub returns-clause-arcs : goal.returns-clause-arcs
unfolding lcm_of gcd_of common_divisor_up_to
returns-clause-arcs c = refl

pub returns-clause-lottery : goal.returns-clause-lottery
unfolding spread lcm_of gcd_of common_divisor_up_to
returns-clause-lottery c = refl
