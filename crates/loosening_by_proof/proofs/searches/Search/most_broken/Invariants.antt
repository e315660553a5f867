use Rattle.std.proofs.Common.{◌<◌, length}
use Rattle.std.specs.Prelude.{IfSome}
use Rattle.loosening_by_proof.proofs.searches.Search.most_broken.Given as goal

-- a column that was found is one of the volunteers' columns
abbrev pub invariant-loop-column : goal.invariant-loop-column
invariant-loop-column l = IfSome l.found (λ column. column < length l.self.columns.items)
