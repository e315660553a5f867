-- What the code returns for a file that is imported. The contracts of src/imports.rt cite it.
use Rattle.std.specs.Prelude.{◌≡◌, ℕ, List, None, Result, Ok, Err, ⊤}
use Rattle.define_proofs.specs.ProofVerdict.{Proof}
use Rattle.define_offices.specs.Tables.{Tables}
use Rattle.define_proofs.specs.ProofReading.{read_proof}
use Rattle.office_core.specs.Commands.{seen_command}
use Rattle.office_core.specs.declared.commands.Command.{Command}
use Rattle.office_import.specs.Answers.{fault_of}
use Rattle.office_import.specs.declared.stops.ImportStop.{ImportStop}
use Rattle.office_import.specs.declared.stops.ImportStop.TheVariants as read
use Rattle.command_stores.specs.declared.imports.FileStop.{FileStop}
use Rattle.command_stores.specs.declared.imports.FileStop.TheVariants.{Fault, NoRules, OutOfMemory}
use Rattle.command_meanings.specs.declared.office.Import.{Import}
use Rattle.command_meanings.specs.declared.office.Import.TheVariants.{Register}
use Rattle.command_meanings.specs.Imports.{ReadsFile}

-- what the code may return for a file; running out of memory is allowed at any time
abbrev pub IsReadAs : Import → Tables → List ℕ → Result Command FileStop → Type 0
IsReadAs it tables bytes (Ok command) = ReadsFile it tables bytes (Ok (seen_command command))
IsReadAs it tables bytes (Err (Fault fault)) = ReadsFile it tables bytes (Err (fault_of fault))
IsReadAs it tables bytes (Err NoRules) = (it ≡ Register) × (tables.rules ≡ None)
IsReadAs it tables bytes (Err OutOfMemory) = ⊤

-- what the code may return for the text of a proof
abbrev pub IsProofRead : List ℕ → Result Proof ImportStop → Type 0
IsProofRead bytes (Ok proof) = read_proof bytes ≡ Ok proof
IsProofRead bytes (Err (read.Fault fault)) = read_proof bytes ≡ Err (record { line = fault.place; kind = fault.kind })
IsProofRead bytes (Err read.OutOfMemory) = ⊤

-- the stop of an import for a stop of the reader of its file
abbrev pub stop_of_import : ImportStop → FileStop
stop_of_import (read.Fault fault) = Fault fault
stop_of_import read.OutOfMemory = OutOfMemory
