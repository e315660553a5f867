use Rattle.std.proofs.Common.{◌≡◌, ◌<◌, ◌^◌, take}
use Rattle.std.specs.Str.Parse.{digits_value}
use Rattle.tickets.proofs.dice.value_of.Given as goal

-- `value` is the number that the digits read so far spell
abbrev pub invariant-loop-digit : goal.invariant-loop-digit
invariant-loop-digit l = record {
  is : l.value ≡ digits_value 10 (take l.digit-index l.digits);
  small : l.value < 10 ^ l.digit-index;
}
