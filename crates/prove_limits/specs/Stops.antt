-- The stops of calls that only calculate.
use Rattle.prove_limits.specs.declared.stops.ProveStop.{ProveStop}
use Rattle.prove_limits.specs.declared.stops.ProveStop.TheVariants.{Wide, BeyondWidth, Spent, Lost, OutOfMemory}

-- the stop says that an operation passes 2^62, or that memory runs out
abbrev pub IsWideOrMemory : ProveStop → Type 0
IsWideOrMemory (Wide pass) = Unit {0}
IsWideOrMemory BeyondWidth = ⊥
IsWideOrMemory (Spent limit) = ⊥
IsWideOrMemory Lost = ⊥
IsWideOrMemory OutOfMemory = Unit {0}
