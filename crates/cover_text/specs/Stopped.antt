-- The error for a stop of a builder in a line. The contracts of the reader cite it.
use Rattle.std.specs.Prelude.{ℕ}
use Rattle.pool_model.specs.declared.building.BuildStop.{BuildStop}
use Rattle.pool_model.specs.declared.building.BuildStop.TheVariants.{Kind, OutOfMemory as NoMemory}
use Rattle.text_lines.specs.declared.faults.TextStop.{TextStop}
use Rattle.text_lines.specs.declared.faults.TextStop.TheVariants.{Fault as fault, OutOfMemory}

-- the error for a stop in line `line`, counted from 1
abbrev pub stopped : ℕ → BuildStop → TextStop
stopped line (Kind kind) = fault (record { line = line; kind = kind })
stopped line NoMemory = OutOfMemory
