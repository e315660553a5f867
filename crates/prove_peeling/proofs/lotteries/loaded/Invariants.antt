use Rattle.std.proofs.Common.{◌≡◌}
use Rattle.prove_peeling.proofs.lotteries.loaded.Given as goal

abbrev pub invariant-loop-row : goal.invariant-loop-row
invariant-loop-row l = (l.table.rows ≡ l.row) × (l.table.columns ≡ l.columns)
