use Rattle.std.proofs.Common.{◌≡◌}
use Rattle.define_proofs.specs.LeafSums.{first_multipliers}
use Rattle.define_proofs.specs.Leaves.{rest}
use Rattle.check_proofs.proofs.leaves.rest.Given as goal

-- `rest` is the volunteer's rest after the multipliers read so far
abbrev pub invariant-loop-multiplier : goal.invariant-loop-multiplier
invariant-loop-multiplier l = l.rest ≡ rest l.problem (first_multipliers l.multiplier-index l.leaf) l.i
