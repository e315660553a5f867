use Rattle.std.proofs.Common.{◌≡◌, take}
use Rattle.std.specs.List.{flat_map}
use Rattle.define_runs.specs.Spreading.{rows_of}
use Rattle.alike.proofs.spreading.all_rows.Given as goal

abbrev pub invariant-loop-composition : goal.invariant-loop-composition
invariant-loop-composition l = l.rows.items ≡ flat_map (rows_of l.classes l.total) (take l.composition-index l.parts)
