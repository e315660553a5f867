use Rattle.std.proofs.Common.{◌-◌, ◌≤◌}
use Rattle.define_draws.specs.Dice.{group_size}
use Rattle.command_questions.proofs.dice.group_size.Given as goal

-- the size is from 1 to 38, and no smaller size has enough groups
abbrev pub invariant-loop-size : goal.invariant-loop-size
invariant-loop-size l = record { some : 1 ≤ l.size; reach : l.size ≤ group_size l.total; few : l.size ≤ 38 }

abbrev pub decreases-loop-size : goal.decreases-loop-size
decreases-loop-size l = 38 - l.size
