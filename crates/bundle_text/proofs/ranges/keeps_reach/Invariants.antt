use Rattle.std.proofs.Common.{◌≡◌, ◌+◌, ◌-◌, ◌^◌, take, min}
use Rattle.std.specs.Prelude.{sum_by, unsigned_abs}
use Rattle.bundle_text.proofs.ranges.keeps_reach.Given as goal

-- `reach` is the sum so far of the absolute values of the cap and the weights, or 2^128 - 1 if the sum is more
abbrev pub invariant-loop-weight : goal.invariant-loop-weight
invariant-loop-weight l = l.reach ≡ min (unsigned_abs l.stage.cap + sum_by unsigned_abs (take l.weight-index l.weight-items)) (2 ^ 128 - 1)
