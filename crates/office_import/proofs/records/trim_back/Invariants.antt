use Rattle.std.proofs.Common.{◌≡◌, length, reverse}
use Rattle.define_imports.specs.Cells.{trim_front}
use Rattle.office_import.proofs.records.trim_back.Given as goal

abbrev pub invariant-loop-last : goal.invariant-loop-last
invariant-loop-last l = trim_front (reverse l.rest) ≡ trim_front (reverse l.fn.field)

abbrev pub decreases-loop-last : goal.decreases-loop-last
decreases-loop-last l = length l.rest
