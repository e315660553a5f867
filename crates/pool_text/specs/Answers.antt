-- What the readers of a pool's text return. Their contracts cite it, and so do the readers of bundles and proofs.
use Rattle.std.specs.Prelude.{◌≡◌, ◌≤◌, ℕ, Option, Some, None, Result, Ok, Err, ⊤}
use Rattle.define_pools.specs.Pool.{Pool}
use Rattle.define_lines.specs.Lines.{Fault}
use Rattle.pool_model.specs.declared.building.BuildStop.{BuildStop}
use Rattle.pool_model.specs.declared.building.BuildStop.TheVariants.{Kind, OutOfMemory as NoMemory}
use Rattle.pool_text.specs.declared.faults.PoolFault.{PoolFault}
use Rattle.pool_text.specs.declared.faults.ReadPool.{ReadPool}
use Rattle.pool_text.specs.declared.faults.ReadPool.TheVariants.{Fault as fault, OutOfMemory}

-- the fault in the form of the definitions
abbrev pub fault_of : PoolFault → Fault
fault_of f = record { line = f.line; kind = f.kind }

-- what a reader may return if the definition's result is `said`: the same pool, or the same fault; running out of memory is allowed at any
-- time
abbrev pub Reads : Result Pool Fault → Result Pool ReadPool → Type 0
Reads said (Ok pool) = said ≡ Ok pool
Reads said (Err (fault f)) = said ≡ Err (fault_of f)
Reads said (Err OutOfMemory) = ⊤

-- what may be returned for a line whose lowest kind of fault is `kind`: a success only if no kind applies, else that kind; running out of
-- memory is allowed at any time
abbrev pub Tells : {T : Type 0} → Option ℕ → Result T BuildStop → Type 0
Tells kind (Ok right) = kind ≡ None
Tells kind (Err (Kind told)) = kind ≡ Some told
Tells kind (Err NoMemory) = ⊤

-- no line before line `number` has a fault
abbrev pub IsRightBefore : ℕ → Result Pool Fault → Type 0
IsRightBefore number (Ok pool) = ⊤
IsRightBefore number (Err f) = number ≤ f.line

-- the reader's stop, if the builder stops at line `line`
abbrev pub stopped : ℕ → BuildStop → ReadPool
stopped line (Kind kind) = fault (record { line = line; kind = kind })
stopped line NoMemory = OutOfMemory
