use Rattle.std.proofs.Common.{◌≡◌, length}
use Rattle.define_imports.specs.Cells.{trim_front}
use Rattle.office_import.proofs.records.trim_front.Given as goal

abbrev pub invariant-loop-first : goal.invariant-loop-first
invariant-loop-first l = trim_front l.rest ≡ trim_front l.fn.field

abbrev pub decreases-loop-first : goal.decreases-loop-first
decreases-loop-first l = length l.rest
