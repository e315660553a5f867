-- What `tickets` prints: which tickets draw which panel of a bundle. Builds on the tickets of `define_draws`.
use Rattle.std.specs.Prelude.{ℕ, ◌+◌, ◌-◌, ◌==◌, if◌then◌else◌, List, ◌∷◌, ◌++◌, map}
use Rattle.std.specs.Fmt.{decimal}
use Rattle.std.specs.List.{enumerate_from}
use Rattle.define_bundles.specs.BundleText.{Bundle}
use Rattle.define_draws.specs.Tickets.{first_ticket, weights_of}
use Rattle.define_lines.specs.Lines.{line_of}
use Rattle.define_pools.specs.Lottery.{Lottery, LotteryRow}
use Rattle.define_pools.specs.Pool.{Volunteer, volunteer}

-- the first and the last ticket of a range, or its only ticket
abbrev pub range_text : ℕ → ℕ → List ℕ
range_text first weight = if weight == 1 then decimal first else decimal first ++ 45 ∷ decimal (first + weight - 1)

-- the line of a row: its tickets, the panel's number, and the ids of its members
abbrev pub row_line : List Volunteer → ℕ → ℕ → LotteryRow → List ℕ
row_line volunteers first number row =
    line_of (range_text first row.weight ∷ decimal number ∷ map (λ i. (volunteer volunteers i).id) row.panel)

-- the lines of the rows, in the order of the rows; panels are counted from 1
abbrev pub row_lines : List Volunteer → Lottery → List (List ℕ)
row_lines volunteers lottery =
    map (λ (place, row). row_line volunteers (first_ticket (weights_of lottery) place) (place + 1) row) (enumerate_from 0 lottery.rows)

abbrev pub ticket_lines : Bundle → List (List ℕ)
ticket_lines bundle = row_lines bundle.pool.volunteers bundle.answer.lottery
