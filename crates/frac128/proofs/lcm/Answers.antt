use Rattle.std.proofs.Common.{arith, unsigned_abs}
use Rattle.std.proofs.lemmas.Int.{ints}
use Rattle.frac128.proofs.DivisorLaws.{IsLeastCommonMultiple-lcm_of}
use Rattle.frac128.proofs.lcm.Goals as goal

pub returns-in_err-multiple-clause-least : goal.returns-in_err-multiple-clause-least
returns-in_err-multiple-clause-least c =
    IsLeastCommonMultiple-lcm_of (unsigned_abs c.args.x) (unsigned_abs c.args.y) (omega (arith, ints))

pub returns-clause-least : goal.returns-clause-least
returns-clause-least c =
    IsLeastCommonMultiple-lcm_of (unsigned_abs c.args.x) (unsigned_abs c.args.y) (omega (arith, ints))
