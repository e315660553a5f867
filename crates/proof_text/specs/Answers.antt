-- The results that reading the text of a proof may have. The contracts of `reading` cite it.
use Rattle.std.specs.Prelude.{◌≡◌, ℕ, Result, Ok, Err, ⊤}
use Rattle.define_lines.specs.Lines.{Fault}
use Rattle.define_proofs.specs.ProofVerdict.{Proof}
use Rattle.pool_model.specs.declared.building.BuildStop.{BuildStop}
use Rattle.pool_model.specs.declared.building.BuildStop.TheVariants.{Kind, OutOfMemory as NoMemory}
use Rattle.text_lines.specs.declared.faults.TextStop.{TextStop}
use Rattle.text_lines.specs.declared.faults.TextStop.TheVariants.{Fault as fault, OutOfMemory}

-- the result is the proof or the fault that the definitions compute, or out of memory, which is always allowed
abbrev pub Reads : Result Proof Fault → Result Proof TextStop → Type 0
Reads said (Ok proof) = said ≡ Ok proof
Reads said (Err (fault f)) = said ≡ Err (record { line = f.line; kind = f.kind })
Reads said (Err OutOfMemory) = ⊤

-- the error for a stop in line `line`, counted from 1
abbrev pub stopped : ℕ → BuildStop → TextStop
stopped line (Kind kind) = fault (record { line = line; kind = kind })
stopped line NoMemory = OutOfMemory
