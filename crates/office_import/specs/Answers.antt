-- What the readers of imported files return. Their contracts use it.
use Rattle.std.specs.Prelude.{ℕ, ⊤, Option, Some, None, Result, Ok, Err, ◌≡◌}
use Rattle.define_imports.specs.Cells.{Fault}
use Rattle.pool_model.specs.declared.building.BuildStop.{BuildStop}
use Rattle.pool_model.specs.declared.building.BuildStop.TheVariants.{Kind, OutOfMemory as NoMemory}
use Rattle.office_import.specs.declared.stops.ImportFault.{ImportFault}
use Rattle.office_import.specs.declared.stops.ImportStop.{ImportStop}
use Rattle.office_import.specs.declared.stops.ImportStop.TheVariants.{Fault as fault, OutOfMemory}

-- the fault in the form of the definitions
abbrev pub fault_of : ImportFault → Fault
fault_of f = record { place = f.place; kind = f.kind }

-- a reader stops with this fault only if the file has it; running out of memory is allowed at any time
abbrev pub IsFault : (Fault → Type 0) → ImportStop → Type 0
IsFault Has (fault f) = Has (fault_of f)
IsFault Has OutOfMemory = ⊤

-- what a reader may return, where `Is` says what the file is read as: the same value, or the same fault
abbrev pub Reads : {T : Type 0} → (Result T Fault → Type 0) → Result T ImportStop → Type 0
Reads Is (Ok value) = Is (Ok value)
Reads Is (Err stop) = IsFault (λ f. Is (Err f)) stop

-- what may be returned for a record whose lowest kind of fault is `kind`: a success only if no kind applies, else that kind
abbrev pub Tells : {T : Type 0} → Option ℕ → Result T BuildStop → Type 0
Tells kind (Ok right) = kind ≡ None
Tells kind (Err (Kind told)) = kind ≡ Some told
Tells kind (Err NoMemory) = ⊤

-- the reader's stop, if a record at a place is refused
abbrev pub stopped : ℕ → BuildStop → ImportStop
stopped place (Kind kind) = fault (record { place = place; kind = kind })
stopped place NoMemory = OutOfMemory
