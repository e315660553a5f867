use Rattle.std.proofs.Common.{◌≡◌}
use Rattle.define_offices.specs.Pools.{next_standing}
use Rattle.rounds.proofs.Restanding.{restood_pool_to}
use Rattle.rounds.proofs.pool_after.Given as goal

-- the volunteers below `number` have their standings of the next round; the others still have those of the pool
abbrev pub invariant-loop-number : goal.invariant-loop-number
invariant-loop-number l = l.next ≡ restood_pool_to (next_standing l.panel l.drops) l.number l.pool
