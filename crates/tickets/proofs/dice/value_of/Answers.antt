use Rattle.std.proofs.Common.{◌≡◌, ◌-◌, true, get_or, arith}
use Rattle.std.specs.Char.{is_ascii_digit}
use Rattle.tickets.proofs.Groups.{digit_is, next_small, next_value, small-power}
use Rattle.tickets.proofs.dice.value_of.Goals as goal

pub overflow_mul-value : goal.overflow_mul-value
overflow_mul-value c = let power = small-power c.loop-digit.digit-index (omega arith) in omega (arith, c.loop-digit.invariant.small)

pub overflow_add-value : goal.overflow_add-value
overflow_add-value c =
    let power = small-power c.loop-digit.digit-index (omega arith) in
    let digit = digit_is (get_or c.args.digits.now c.loop-digit.digit-index 0) (c.requires.digits.each c.loop-digit.digit-index (omega arith)) in
    omega (arith, c.loop-digit.invariant.small, digit.1, digit.2)

pub loop-digit-preserved : goal.loop-digit-preserved
loop-digit-preserved c =
    let i = c.loop-digit.digit-index in
    let digits = c.args.digits.now in
    let here : is_ascii_digit (get_or digits i 0) ≡ true = c.requires.digits.each i (omega arith) in
    let digit = digit_is (get_or digits i 0) here in
    record {
      is = next_value digits i c.loop-digit.value (omega arith) here c.loop-digit.invariant.is;
      small = next_small c.loop-digit.value i (get_or digits i 0 - 48) c.loop-digit.invariant.small (omega (arith, digit.1, digit.2));
    }
