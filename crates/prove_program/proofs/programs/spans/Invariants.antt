use Rattle.std.proofs.Common.{◌≡◌, map, take}
use Rattle.prove_program.specs.Programs.{span_of}
use Rattle.prove_program.proofs.programs.spans.Given as goal

abbrev pub invariant-loop-column : goal.invariant-loop-column
invariant-loop-column l = l.spans.items ≡ map span_of (take l.column-index l.columns)
