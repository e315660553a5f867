use Rattle.std.proofs.Common.{◌≡◌, ◌+◌, ◌-◌, ◌^◌, take, min}
use Rattle.std.specs.Prelude.{sum_by, unsigned_abs}
use Rattle.check_proofs.proofs.verifying.is_in_reach.Given as goal

-- `reach` is the sum of the absolute values of the cap and of the weights read so far, or 2^128 - 1 if the sum is greater
abbrev pub invariant-loop-weight : goal.invariant-loop-weight
invariant-loop-weight l = l.reach ≡ min (unsigned_abs l.stage.cap + sum_by unsigned_abs (take l.weight-index l.weight-items)) (2 ^ 128 - 1)
