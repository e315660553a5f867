use Rattle.std.proofs.Common.{arith}
use Rattle.define_draws.proofs.DiceLemmas.{size-some}
use Rattle.command_questions.proofs.Numbers.{is_size, next_size, size-few}
use Rattle.command_questions.proofs.dice.group_size.Goals as goal

pub loop-size-init : goal.loop-size-init
loop-size-init c = record { some = omega arith; reach = size-some c.args.total; few = omega arith }

pub loop-size-preserved : goal.loop-size-preserved
loop-size-preserved c =
    let next = next_size c.args.total c.loop-size.size c.loop-size.invariant.reach (omega (arith, c.power_of_ten.ensures.value, c.loop-size-test.true)) in
    record { some = omega arith; reach = next; few = omega (arith, size-few c.args.total c.requires.most) }

pub returns-clause-size : goal.returns-clause-size
returns-clause-size c =
    is_size c.args.total c.loop-size.size c.loop-size.invariant.some c.loop-size.invariant.reach (omega (arith, c.power_of_ten.ensures.value, c.loop-size-test.false))
