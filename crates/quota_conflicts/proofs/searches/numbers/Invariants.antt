use Rattle.std.proofs.Common.{◌≡◌, length}
use Rattle.quota_conflicts.proofs.searches.numbers.Given as goal

abbrev pub invariant-loop-row : goal.invariant-loop-row
invariant-loop-row l = length l.numbers.items ≡ l.row
