-- The examples are proved by computation, with the definitions of digits and of common divisors unfolded.
use Rattle.std.proofs.Common.{refl}
use Rattle.std.specs.Fmt.{digits}
use Rattle.frac128.specs.Divisors.{common_divisor_up_to, gcd_of}
use Rattle.define_made_pools.proofs.summaries.Goals as goal

pub returns-clause-single : goal.returns-clause-single
unfolding digits common_divisor_up_to gcd_of
returns-clause-single c = refl

pub returns-clause-dropout : goal.returns-clause-dropout
unfolding digits common_divisor_up_to gcd_of
returns-clause-dropout c = refl
