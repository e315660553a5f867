-- What `tell_next_pool` tells: the text of the pool of the next round, after a panel was drawn and some of its members dropped out. Builds on
-- Pools of `define_offices` and on the text of pools. The contract of `tell_next_pool` cites it.
use Rattle.std.specs.Prelude.{◌≡◌, ℕ, Bool, nat_le, List, filter, slice_index_or}
use Rattle.define_bundles.specs.PoolText.{spelling}
use Rattle.define_offices.specs.Pools.{next_pool}
use Rattle.define_pools.specs.Pool.{Pool, everybody}
use Rattle.command_shell.specs.Answers.{Prints, Saying}
use Rattle.command_shell.specs.declared.status.Printed.TheVariants.{Done}

-- A volunteer has a mark: 0 if not in the panel, 1 for a member who comes, 2 or more for a member who can't. One behind the last mark has 0
abbrev pub mark_at : List ℕ → ℕ → ℕ
mark_at marks i = slice_index_or marks i 0

abbrev pub is_member : List ℕ → ℕ → Bool
is_member marks i = nat_le 1 (mark_at marks i)

abbrev pub is_dropped : List ℕ → ℕ → Bool
is_dropped marks i = nat_le 2 (mark_at marks i)

-- the numbers of the volunteers who are in the panel
abbrev pub members_by : List ℕ → Pool → List ℕ
members_by marks pool = filter (is_member marks) (everybody pool)

-- the numbers of the members who can't come
abbrev pub dropped_by : List ℕ → Pool → List ℕ
dropped_by marks pool = filter (is_dropped marks) (everybody pool)

-- the answer is the text of the next pool
abbrev pub IsNextPool : List ℕ → Pool → Saying → Type 0
IsNextPool marks pool answer = answer ≡ Prints Done (spelling (next_pool pool (members_by marks pool) (dropped_by marks pool)))
