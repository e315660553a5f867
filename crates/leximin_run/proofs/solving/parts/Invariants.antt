use Rattle.std.proofs.Common.{◌≡◌, map, take, [], slice_index_or}
use Rattle.leximin_run.proofs.solving.parts.Given as goal

-- `parts` are the columns read so far, as compositions with their fractions
abbrev pub invariant-loop-column : goal.invariant-loop-column
invariant-loop-column l = l.parts.items ≡ map (λ (column, value). (slice_index_or l.table.columns column [], value)) (take l.column-index l.column-items)
