-- A lottery in a round number of tickets. A row's share of `tickets` is its weight over the total, times `tickets`. Each row gets its share
-- rounded down. The tickets that are left go to the rows that lost most by rounding, one to each. `short_tickets` shortens lotteries this
-- way.
use Rattle.std.specs.Prelude.{ℕ, ◌+◌, ◌-◌, ◌*◌, ◌/◌, ◌%◌, ◌==◌, nat_le, nat_lt, if◌then◌else◌, Bool, List, [], ◌∷◌, length, map, count_by, drop, slice_index, sum, take}
use Rattle.std.specs.List.{range_with_len}
use Rattle.define_draws.specs.Tickets.{weights_of}
use Rattle.define_pools.specs.Lottery.{Lottery, LotteryRow}

-- the share of a row with this weight, rounded down
abbrev pub whole_tickets : ℕ → ℕ → ℕ → ℕ
whole_tickets total tickets weight = weight * tickets / total

-- what was cut off from the share, times the total
abbrev pub remainder : ℕ → ℕ → ℕ → ℕ
remainder total tickets weight = weight * tickets % total

-- how many tickets are left when each row has its share rounded down
abbrev pub tickets_left : ℕ → ℕ → List ℕ → ℕ
tickets_left total tickets weights = tickets - sum (map (whole_tickets total tickets) weights)

-- how many rows come before the row at `place` when tickets that are left are given out: the earlier rows with at least its remainder,
-- and the later rows with a greater one
abbrev pub rows_before : List ℕ → ℕ → ℕ
rows_before remainders place =
    count_by (λ other. nat_le (slice_index remainders place) other) (take place remainders)
    + count_by (λ other. nat_lt (slice_index remainders place) other) (drop (place + 1) remainders)

-- true if the row at `place` gets one of the `left` tickets: fewer than `left` rows come before it
abbrev pub is_among_first : ℕ → List ℕ → ℕ → Bool
is_among_first left remainders place = nat_lt (rows_before remainders place) left

-- the tickets of the row at `place`
abbrev pub tickets_at : ℕ → ℕ → List ℕ → ℕ → ℕ
tickets_at total tickets weights place =
    whole_tickets total tickets (slice_index weights place)
    + (if is_among_first (tickets_left total tickets weights) (map (remainder total tickets) weights) place then 1 else 0)

-- the tickets of each row
abbrev pub tickets_by_weight : ℕ → ℕ → List ℕ → List ℕ
tickets_by_weight total tickets weights = map (tickets_at total tickets weights) (range_with_len 0 (length weights))

-- the rows that have a ticket, with their tickets as weights
abbrev pub rows_with_tickets : List LotteryRow → List ℕ → List LotteryRow
rows_with_tickets [] tickets = []
rows_with_tickets (row ∷ rows) [] = []
rows_with_tickets (row ∷ rows) (count ∷ tickets) =
    if count == 0 then rows_with_tickets rows tickets else record { panel = row.panel; weight = count } ∷ rows_with_tickets rows tickets

-- the lottery in this number of tickets
abbrev pub shortened : Lottery → ℕ → Lottery
shortened lottery tickets = record {
  total = tickets;
  rows = rows_with_tickets lottery.rows (tickets_by_weight lottery.total tickets (weights_of lottery));
}
