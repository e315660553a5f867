use Rattle.std.proofs.Common.{refl}
use Rattle.std.specs.Fmt.{digits}
use Rattle.frac128.specs.Divisors.{common_divisor_up_to, gcd_of}
use Rattle.command_questions.proofs.worked.worked_tickets.Goals as goal

pub returns : goal.returns
unfolding digits common_divisor_up_to gcd_of
returns c = refl
