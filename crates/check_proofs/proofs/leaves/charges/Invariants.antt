use Rattle.std.proofs.Common.{◌≡◌}
use Rattle.define_proofs.specs.LeafSums.{first_charges}
use Rattle.check_proofs.proofs.leaves.charges.Given as goal

-- `charges` is the sum of the charges of the multipliers read so far
abbrev pub invariant-loop-multiplier : goal.invariant-loop-multiplier
invariant-loop-multiplier l = l.charges ≡ first_charges l.problem l.multiplier-index l.leaf
