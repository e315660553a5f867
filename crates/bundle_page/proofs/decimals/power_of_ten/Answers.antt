use Rattle.std.proofs.Common.{arith}
use Rattle.bundle_page.proofs.Numbers.{power-le, power-some}
use Rattle.bundle_page.proofs.decimals.power_of_ten.Goals as goal

pub pow-requires : goal.pow-requires
pow-requires c = omega (arith, power-le c.args.exponent c.requires)

pub returns-clause-some : goal.returns-clause-some
returns-clause-some c = omega (arith, power-some c.args.exponent, c.pow.ensures)

pub returns-clause-few : goal.returns-clause-few
returns-clause-few c = omega (arith, power-le c.args.exponent c.requires, c.pow.ensures)
