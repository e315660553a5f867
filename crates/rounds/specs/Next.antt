-- What `next_pool` returns, and the standings after withdrawals by marks. Builds on Pools of `define_offices`.
use Rattle.std.specs.Prelude.{◌≡◌, ℕ, Bool, false, List, slice_index_or, Some, None, Result, Ok, Err, ⊤}
use Rattle.define_pools.specs.declared.Standing.{Standing}
use Rattle.define_pools.specs.declared.Standing.TheVariants as standing
use Rattle.define_pools.specs.Pool.{Pool}
use Rattle.define_offices.specs.Pools.{next_pool, not_seated, standing_of}
use Rattle.rounds.specs.declared.NextStop.{NextStop}
use Rattle.rounds.specs.declared.NextStop.TheVariants.{NotSeated, OutOfMemory}

-- the result is the next pool, or the first dropout who isn't in the panel. The call may run out of memory at any time
abbrev pub TellsNext : Pool → List ℕ → List ℕ → Result Pool NextStop → Type 0
TellsNext pool panel drops (Ok next) = (not_seated panel drops ≡ None) × (next ≡ next_pool pool panel drops)
TellsNext pool panel drops (Err (NotSeated number)) = not_seated panel drops ≡ Some number
TellsNext pool panel drops (Err OutOfMemory) = ⊤

-- an open volunteer whose mark is true is gone; the other standings stay
abbrev pub standing_marked : List Bool → ℕ → Standing → Standing
standing_marked marks i standing.Open = standing_of (slice_index_or marks i false)
standing_marked marks i standing.Seated = standing.Seated
standing_marked marks i standing.Gone = standing.Gone
