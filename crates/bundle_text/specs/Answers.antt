-- How a bundle's text is read: the right answers of a reader. The contracts of the readers cite it.
use Rattle.std.specs.Prelude.{◌≡◌, ℕ, Result, Ok, Err, ⊤}
use Rattle.define_lines.specs.Lines.{Fault}
use Rattle.define_bundles.specs.BundleText.{Bundle}
use Rattle.pool_model.specs.declared.building.BuildStop.{BuildStop}
use Rattle.pool_model.specs.declared.building.BuildStop.TheVariants.{Kind, OutOfMemory as NoMemory}
use Rattle.bundle_text.specs.declared.faults.BundleFault.{BundleFault}
use Rattle.bundle_text.specs.declared.faults.ReadBundle.{ReadBundle}
use Rattle.bundle_text.specs.declared.faults.ReadBundle.TheVariants.{Fault as fault, OutOfMemory}

-- the fault in the form of the definitions
abbrev pub fault_of : BundleFault → Fault
fault_of f = record { line = f.line; kind = f.kind }

-- the right answers of a reader if the definition reads the bytes as `said`: this bundle or this fault; running out of memory is allowed at
-- any time
abbrev pub Reads : Result Bundle Fault → Result Bundle ReadBundle → Type 0
Reads said (Ok bundle) = said ≡ Ok bundle
Reads said (Err (fault f)) = said ≡ Err (fault_of f)
Reads said (Err OutOfMemory) = ⊤

-- the reader's answer if the lines stop at `line`
abbrev pub stopped : ℕ → BuildStop → ReadBundle
stopped line (Kind kind) = fault (record { line = line; kind = kind })
stopped line NoMemory = OutOfMemory
