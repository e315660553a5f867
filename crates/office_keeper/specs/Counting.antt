-- How a keeper counts its faults. The contracts of `SqliteOver` and `SqliteKeeper` cite it.
use Rattle.std.specs.Prelude.{ℕ, Result, Ok, Err}
use Rattle.outside.specs.Faults.{raised}
use Rattle.office_core.specs.declared.keeper.KeeperStop.{KeeperStop}
use Rattle.office_core.specs.declared.keeper.KeeperStop.TheVariants.{Failed, OutOfMemory}

-- the count after a call with this result: one more if the call failed with a fault, the same if it succeeded or memory ran out
abbrev pub faults_after : {T : Type 0} → ℕ → Result T KeeperStop → ℕ
faults_after count (Ok value) = count
faults_after count (Err Failed) = raised count
faults_after count (Err OutOfMemory) = count
