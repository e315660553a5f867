-- The laws of runs whose workers share a bound. Builds on Sharing. The contracts of this crate's laws use it.
use Rattle.std.specs.Prelude.{◌≡◌, IsFalse}
use Rattle.define_runs.specs.Keeps.{AreRunLimits}
use Rattle.define_runs.specs.Run.{Ending, Ends, RunLimits}
use Rattle.define_searches.specs.Classes.{Classes, KeepsLimits}
use Rattle.define_runs.specs.Sharing.{EndsUnbounded, MayEnd, spends_pricing}

-- the unbounded run has at most one ending
abbrev pub OneUnboundedEnding : Type 0
OneUnboundedEnding = (all : Classes) (limits : RunLimits) (first second : Ending) → EndsUnbounded all limits first → EndsUnbounded all limits second → first ≡ second

-- the unbounded run over classes within the limits of a pool, under limits in their ranges, has an ending
abbrev pub EachUnboundedEnds : Type 0
EachUnboundedEnds = (all : Classes) (limits : RunLimits) → KeepsLimits all → AreRunLimits limits → (ending : Ending) × EndsUnbounded all limits ending

-- a run in which no pricing spends its budget ends as the unbounded run does
abbrev pub EndingsStay : Type 0
EndingsStay = (all : Classes) (limits : RunLimits) (ending : Ending) → Ends all limits ending → IsFalse (spends_pricing ending) → EndsUnbounded all limits ending

-- if no pricing spends its budget in the run whose workers share nothing, the run whose workers share a bound has the same ending
abbrev pub SharingKeepsEnding : Type 0
SharingKeepsEnding = (all : Classes) (limits : RunLimits) (apart shared : Ending) → Ends all limits apart → IsFalse (spends_pricing apart) → MayEnd all limits shared → shared ≡ apart

-- runs whose workers share a bound have the same ending, unless a pricing spends its budget in one of them
abbrev pub OneEndingBesidesSpent : Type 0
OneEndingBesidesSpent = (all : Classes) (limits : RunLimits) (first second : Ending) → MayEnd all limits first → MayEnd all limits second → IsFalse (spends_pricing first) → IsFalse (spends_pricing second) → first ≡ second

-- the ending of the run whose workers share nothing is one of those that are allowed if they share a bound
abbrev pub ApartIsAllowed : Type 0
ApartIsAllowed = (all : Classes) (limits : RunLimits) (ending : Ending) → Ends all limits ending → MayEnd all limits ending
