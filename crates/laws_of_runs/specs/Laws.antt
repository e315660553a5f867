-- What each ending of a run shows about the pool, for any test of who is alike that makes classes. Builds on Run and Keeps of
-- `define_runs`, the definitions below them, and Ranges of `define_bundles`. The contracts of this crate's laws use it.
use Rattle.std.specs.Prelude.{◌≡◌, ℕ, ◌≤◌, Bool, []}
use Rattle.define_bundles.specs.Ranges.{IsInRanges}
use Rattle.define_pools.specs.Certificate.{Answer, Certifies}
use Rattle.define_pools.specs.Lottery.{IsLottery, LeximinGreatest}
use Rattle.define_pools.specs.Pool.{IsPool, Pool, panels}
use Rattle.define_runs.specs.Keeps.{AreRunLimits}
use Rattle.define_runs.specs.Run.{Ends, Found, NoPanel, RunLimits}
use Rattle.define_rows.specs.Table.{Table}
use Rattle.define_searches.specs.Classes.{MakesClasses, classes_by}
use Rattle.define_searches.specs.Visits.{first_search}
use Rattle.define_runs.specs.Spreading.{greatest_total}

-- if a run ends with `NoPanel`, the pool has no quota panel
abbrev pub NoPanelWhereNone : Type 0
NoPanelWhereNone = (pool : Pool) (alike : ℕ → ℕ → Bool) → MakesClasses pool alike → (limits : RunLimits) → Ends (classes_by alike pool) limits NoPanel → panels pool ≡ []

-- if a run ends with `NoPanel`, the opening search made at most as many visits as its budget
abbrev pub NoPanelIsWithin : Type 0
NoPanelIsWithin = (pool : Pool) (alike : ℕ → ℕ → Bool) → MakesClasses pool alike → (limits : RunLimits) → Ends (classes_by alike pool) limits NoPanel →
    (first_search (classes_by alike pool)).visits ≤ limits.opening

-- if a pool has no quota panel, and the opening search stays within its budget, the run ends with `NoPanel`
abbrev pub NoneEndsSo : Type 0
NoneEndsSo = (pool : Pool) (alike : ℕ → ℕ → Bool) → MakesClasses pool alike → (limits : RunLimits) → panels pool ≡ [] →
    (first_search (classes_by alike pool)).visits ≤ limits.opening → Ends (classes_by alike pool) limits NoPanel

-- P holds of each pool and each answer that a run over its classes finds, for any limits in their ranges
abbrev OfFound : (Pool → Answer → Type 0) → Type 0
OfFound P = (pool : Pool) (alike : ℕ → ℕ → Bool) → MakesClasses pool alike → (limits : RunLimits) (last : Table) (answer : Answer) → IsPool pool → AreRunLimits limits →
    Ends (classes_by alike pool) limits (Found last answer) → P pool answer

-- the lottery that a run finds is a lottery over the pool's quota panels
abbrev pub FoundIsLottery : Type 0
FoundIsLottery = OfFound (λ pool answer. IsLottery pool answer.lottery)

-- the total of the lottery that a run finds is at most 10 ^ 38
abbrev pub FoundIsWithin : Type 0
FoundIsWithin = OfFound (λ pool answer. answer.lottery.total ≤ greatest_total)

-- the stages that a run finds certify the lottery that it finds
abbrev pub FoundIsCertified : Type 0
FoundIsCertified = OfFound (λ pool answer. Certifies pool answer.lottery answer.stages)

-- no lottery over the pool is above the one that a run finds
abbrev pub FoundIsGreatest : Type 0
FoundIsGreatest = OfFound (λ pool answer. LeximinGreatest pool answer.lottery)

-- the numbers of an answer that a run finds are in the ranges that they have in the text of a bundle
abbrev pub FoundIsInRanges : Type 0
FoundIsInRanges = OfFound IsInRanges
