use Rattle.std.proofs.Common.{◌≡◌}
use Rattle.rounds.specs.Next.{standing_marked}
use Rattle.rounds.proofs.Restanding.{restood_pool_to}
use Rattle.rounds.proofs.withdraw.Given as goal

-- the volunteers below `number` have their standings after the withdrawals; the others still have their old standings
abbrev pub invariant-loop-number : goal.invariant-loop-number
invariant-loop-number l = l.pool ≡ restood_pool_to (standing_marked l.withdrawn) l.number l.fn.pool
