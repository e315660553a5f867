use Rattle.std.proofs.Common.{◌≡◌, ◌≤◌, ◌-◌}
use Rattle.prove_stages.proofs.mixes.CompositionMix.new.Given as goal

abbrev pub invariant-loop-table : goal.invariant-loop-table
invariant-loop-table l = (l.table.columns ≡ 0) × (l.table.rows ≤ l.columns)

abbrev pub decreases-loop-table : goal.decreases-loop-table
decreases-loop-table l = l.columns - l.table.rows
