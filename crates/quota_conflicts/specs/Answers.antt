-- What `why` answers about a pool, and why it stops.
use Rattle.std.specs.Prelude.{◌≡◌, IsTrue}
use Rattle.define_quotas.specs.Conflicts.{IsConflict}
use Rattle.define_pools.specs.Pool.{Pool, is_quota_panel}
use Rattle.prove_limits.specs.Budgets.{Left}
use Rattle.prove_limits.specs.declared.stops.Limit.TheVariants.{Pivots, Nodes, Lottery}
use Rattle.prove_limits.specs.declared.stops.ProveStop.{ProveStop}
use Rattle.prove_limits.specs.declared.stops.ProveStop.TheVariants.{Wide, BeyondWidth, Spent, Lost, OutOfMemory}
use Rattle.quota_conflicts.specs.declared.answers.Explanation.{Explanation}
use Rattle.quota_conflicts.specs.declared.answers.Explanation.TheVariants.{Panel, Conflict}

-- an explanation that is a panel is a quota panel of the pool; one that is a conflict is a conflict of the pool's quotas
abbrev pub IsExplanation : Pool → Explanation → Type 0
IsExplanation pool (Panel panel) = IsTrue (is_quota_panel pool panel)
IsExplanation pool (Conflict conflict) = IsConflict pool conflict

-- the stops of a search: an operation passes 2^62, no pivot is left, no node is left, the search is lost, or memory runs out
abbrev pub StopsSo : Left → ProveStop → Type 0
StopsSo left (Wide pass) = Unit {0}
StopsSo left BeyondWidth = ⊥
StopsSo left (Spent Pivots) = left.pivots ≡ 0
StopsSo left (Spent Nodes) = left.nodes ≡ 0
StopsSo left (Spent Lottery) = ⊥
StopsSo left Lost = Unit {0}
StopsSo left OutOfMemory = Unit {0}
