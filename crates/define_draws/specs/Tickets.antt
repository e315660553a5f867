-- Tickets: the rows of a lottery have consecutive ranges of whole numbers, from 0, each as long as the row's weight. `tickets` finds
-- rows this way.
use Rattle.std.specs.Prelude.{ℕ, suc, ◌+◌, ◌-◌, ◌<◌, ◌≤◌, nat_lt, if◌then◌else◌, List, [], ◌∷◌, length, map, slice_index, sum, take}
use Rattle.define_pools.specs.Lottery.{Lottery}

abbrev pub weights_of : Lottery → List ℕ
weights_of lottery = map (λ row. row.weight) lottery.rows

-- the first ticket of a row's range
abbrev pub first_ticket : List ℕ → ℕ → ℕ
first_ticket weights row = sum (take row weights)

-- the ticket is in the row's range
pub record HoldsTicket (weights : List ℕ) (row ticket : ℕ) : Type 0 where
  pub exists : row < length weights
  pub first : first_ticket weights row ≤ ticket
  pub below : ticket < first_ticket weights row + slice_index weights row

-- the row whose range has `ticket`; the count of rows if no range has it
abbrev pub row_of : List ℕ → ℕ → ℕ
row_of [] ticket = 0
row_of (weight ∷ weights) ticket = if nat_lt ticket weight then 0 else suc (row_of weights (ticket - weight))
