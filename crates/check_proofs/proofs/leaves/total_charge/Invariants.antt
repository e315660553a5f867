use Rattle.std.proofs.Common.{◌≡◌}
use Rattle.define_proofs.specs.LeafSums.{charges_and_rests}
use Rattle.check_proofs.proofs.leaves.total_charge.Given as goal

-- `total` is the sum of the multipliers' charges and of the charges of the first `i` volunteers' rests
abbrev pub invariant-loop-i : goal.invariant-loop-i
invariant-loop-i l = l.total ≡ charges_and_rests l.problem l.standings l.i l.leaf
