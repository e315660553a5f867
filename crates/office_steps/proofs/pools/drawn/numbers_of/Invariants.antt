use Rattle.std.proofs.Common.{◌≡◌}
use Rattle.office_steps.proofs.Numbers.{has_one, passing}
use Rattle.office_steps.proofs.pools.drawn.numbers_of.Given as goal

-- `numbers` has the numbers of those volunteers before volunteer `number` whose ids are in `ids`
abbrev pub invariant-loop-number : goal.invariant-loop-number
invariant-loop-number l = l.numbers.items ≡ passing (has_one l.pool.volunteers l.ids) l.number
