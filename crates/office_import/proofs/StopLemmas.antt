-- When a reader's stop is right for a file (`IsFault`), and when its result is (`Reads`).
use Rattle.std.proofs.Common.{◌≡◌, ◌∙◌, ℕ, ap, sym, subst, Option, Some, Result, Ok, Err}
use Rattle.define_imports.specs.Cells.{Fault}
use Rattle.office_import.specs.declared.stops.ImportStop.{ImportStop}
use Rattle.office_import.specs.declared.stops.ImportStop.TheVariants.{Fault as fault, OutOfMemory}
use Rattle.pool_model.specs.declared.building.BuildStop.{BuildStop}
use Rattle.pool_model.specs.declared.building.BuildStop.TheVariants.{Kind, OutOfMemory as NoMemory}
use Rattle.office_import.specs.Answers.{IsFault, Reads, Tells, stopped}

-- if a file has a fault, a stop for this fault is right
pub stop_for : {T : Type 0} (said : Result T Fault) (f : Fault) → said ≡ Err f → (stop : ImportStop) → IsFault (λ g. g ≡ f) stop → IsFault (λ g. said ≡ Err g) stop
stop_for said f e (fault g) h = e ∙ ap Err (sym h)
stop_for said f e OutOfMemory h = tt

-- a result that is right for `said` is right for an equal `other`
pub reads_same : {T : Type 0} (said other : Result T Fault) (result : Result T ImportStop) → other ≡ said → Reads (λ r. said ≡ r) result → Reads (λ r. other ≡ r) result
reads_same said other (Ok value) e h = e ∙ h
reads_same said other (Err (fault f)) e h = e ∙ h
reads_same said other (Err OutOfMemory) e h = tt

-- if the fault of the record at `place`, when it has one, is the fault of the file, a stop that is right for the record is right for the
-- file
pub record_stops : {T : Type 0} (X : Type 0) (said : Result T Fault) (kind : Option ℕ) (place : ℕ) → ((k : ℕ) → kind ≡ Some k → said ≡ Err (record { place = place; kind = k })) →
    (stop : BuildStop) → Tells {T = X} kind (Err stop) → (told : ImportStop) → told ≡ stopped place stop → IsFault (λ f. said ≡ Err f) told
record_stops X said kind place has (Kind k) tells told e = subst (IsFault (λ f. said ≡ Err f)) (sym e) (has k tells)
record_stops X said kind place has NoMemory tells told e = subst (IsFault (λ f. said ≡ Err f)) (sym e) tt
