-- What `pool_of` may return, and which rounds were drawn. Builds on Pools of `define_offices`.
use Rattle.std.specs.Prelude.{◌≡◌, true, is_ok, Result, Ok, Err, ⊤}
use Rattle.define_pools.specs.Lottery.{TotalAgrees}
use Rattle.define_pools.specs.Pool.{Pool}
use Rattle.define_draws.specs.Dice.{name_ticket}
use Rattle.define_offices.specs.Commands as office
use Rattle.define_offices.specs.Pools.{drawn_lottery}
use Rattle.define_offices.specs.Tables.{Round, Open, Solved, Sealed, Drawn}
use Rattle.office_steps.specs.declared.pools.PoolStop.{PoolStop}
use Rattle.office_steps.specs.declared.pools.PoolStop.TheVariants.{NoRound, Incomplete, OutOfMemory}

-- what `pool_of` may return if the definition's result is `is`: the same pool, or the same reason why there is none; running out of memory
-- is allowed at any time
abbrev pub TellsPool : Result Pool office.Refusal → Result Pool PoolStop → Type 0
TellsPool is (Ok pool) = is ≡ Ok pool
TellsPool is (Err (NoRound last)) = is ≡ Err (office.NoRound last)
TellsPool is (Err (Incomplete what)) = is ≡ Err (office.Incomplete what)
TellsPool is (Err OutOfMemory) = ⊤

-- the round was drawn: its bundle's weights sum to its total, and its digits name a ticket
abbrev pub IsDrawn : Round → Type 0
IsDrawn Open = ⊥
IsDrawn (Solved bundle) = ⊥
IsDrawn (Sealed bundle tickets) = ⊥
IsDrawn (Drawn bundle tickets digits dropped) = TotalAgrees bundle.answer.lottery × (is_ok (name_ticket (drawn_lottery bundle tickets).total digits) ≡ true)
