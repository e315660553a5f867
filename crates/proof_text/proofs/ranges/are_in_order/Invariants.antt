use Rattle.std.proofs.Common.{ℕ, ◌<◌, ◌+◌, get_or, map}
use Rattle.proof_text.proofs.ranges.are_in_order.Given as goal

-- the numbers of the first `i` multipliers are in rising order
abbrev pub invariant-loop-i : goal.invariant-loop-i
invariant-loop-i l = (k : ℕ) → k + 1 < l.i → get_or (map (λ m. m.number) l.multipliers) k 0 < get_or (map (λ m. m.number) l.multipliers) (k + 1) 0
