use Rattle.std.proofs.Common.{◌≤ℤ◌, pos}
use Rattle.prove_run.proofs.answers.lottery_of.Given as goal

abbrev pub invariant-loop-own : goal.invariant-loop-own
invariant-loop-own l = pos 0 ≤ℤ l.divisor
