use Rattle.std.proofs.Common.{◌≡◌, length}
use Rattle.prove_peeling.proofs.remainders.Remainder.put_back.Given as goal

abbrev pub invariant-loop : goal.invariant-loop
invariant-loop l = length l.self.parts.items ≡ length l.fn.self.parts.items
