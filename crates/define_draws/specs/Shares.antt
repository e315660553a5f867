-- How far numbers of tickets are from the rows' shares. The laws on shortened lotteries use it.
use Rattle.std.specs.Prelude.{ℕ, ◌+◌, ◌-◌, ◌*◌, List, filter, length, slice_index}
use Rattle.std.specs.List.{range_with_len, sum_by}
use Rattle.define_pools.specs.Lists.{includes}
use Rattle.define_pools.specs.Lottery.{Lottery}

-- how far two numbers are apart
abbrev pub distance : ℕ → ℕ → ℕ
distance first second = (first - second) + (second - first)

-- how far `count` tickets are from the share of a row with this weight, times the total
abbrev pub distance_from_share : ℕ → ℕ → ℕ → ℕ → ℕ
distance_from_share total tickets weight count = distance (count * total) (weight * tickets)

-- how far the numbers of tickets `counts` are from the rows' shares, added up over the rows, times the total
abbrev pub distance_from_shares : ℕ → ℕ → List ℕ → List ℕ → ℕ
distance_from_shares total tickets weights counts =
    sum_by (λ place. distance_from_share total tickets (slice_index weights place) (slice_index counts place)) (range_with_len 0 (length weights))

-- how many panels of the lottery have volunteer `i`
abbrev pub panels_with : Lottery → ℕ → ℕ
panels_with lottery i = length (filter (λ row. includes row.panel i) lottery.rows)
