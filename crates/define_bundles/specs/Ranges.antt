-- The ranges of the numbers of an answer in a bundle. `bundle_text` tests them. They keep the sums of the run and of the
-- checks within 128 bits.
use Rattle.std.specs.Prelude.{ℕ, ◌+◌, ◌-◌, ◌^◌, ◌==◌, nat_lt, nat_le, Bool, ◌&&◌, IsTrue, List, length, sum_by, unsigned_abs}
use Rattle.std.specs.List.{list_all}
use Rattle.define_pools.specs.Lists.{is_increasing}
use Rattle.define_pools.specs.Pool.{Pool}
use Rattle.define_pools.specs.Lottery.{LotteryRow}
use Rattle.define_pools.specs.Certificate.{Stage, Answer}

-- a panel's weight, or the total: from 1 to 10^38
abbrev pub is_weight : ℕ → Bool
is_weight weight = nat_le 1 weight && nat_le weight (10 ^ 38)

-- numbers of volunteers in increasing order, at least one, each below `volunteers`
abbrev pub is_group : ℕ → List ℕ → Bool
is_group volunteers panel = nat_lt 0 (length panel) && is_increasing panel && list_all (λ i. nat_lt i volunteers) panel

abbrev pub is_row : ℕ → LotteryRow → Bool
is_row volunteers row = is_weight row.weight && is_group volunteers row.panel

-- a stage's reach: the sum of the absolute values of its cap and weights. No sum of some of these numbers exceeds it in absolute value
abbrev pub reach : Stage → ℕ
reach stage = unsigned_abs stage.cap + sum_by unsigned_abs stage.weights

-- one weight per volunteer, and a reach that fits 128 bits with a sign
abbrev pub is_stage : ℕ → Stage → Bool
is_stage volunteers stage = length stage.weights == volunteers && nat_le (reach stage) (2 ^ 127 - 1)

-- the numbers of an answer keep the ranges that they have in the text of a bundle
pub record IsInRanges (pool : Pool) (answer : Answer) : Type 0 where
  pub total : IsTrue (is_weight answer.lottery.total)
  pub some_row : IsTrue (nat_lt 0 (length answer.lottery.rows))
  pub rows : IsTrue (list_all (is_row (length pool.volunteers)) answer.lottery.rows)
  pub some_stage : IsTrue (nat_lt 0 (length answer.stages))
  pub stages : IsTrue (list_all (is_stage (length pool.volunteers)) answer.stages)
