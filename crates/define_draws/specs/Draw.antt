-- A draw from a lottery under a seal that is kept, given a seal and the digits of dice. Builds on Dice, Seal and Tickets, and on Lottery of
-- `define_pools`. `sealed_draw` draws this way.
use Rattle.std.specs.Prelude.{ℕ, if◌then◌else◌, List, [], map, slice_index_or, unsigned_abs, Result, Ok, Err}
use Rattle.define_pools.specs.Lottery.{Lottery}
use Rattle.define_draws.specs.declared.Named.{Named}
use Rattle.define_draws.specs.declared.DiceStop.{DiceStop}
use Rattle.define_draws.specs.Dice.{name_ticket}
use Rattle.define_draws.specs.Seal.{is_seal}
use Rattle.define_draws.specs.Tickets.{row_of, weights_of}

-- what is drawn: the ticket, how many digits were read, and the panel whose range has the ticket
pub record Drawn : Type 0 where
  pub ticket : ℕ
  pub used : ℕ
  pub panel : List ℕ

-- why nothing is drawn
pub data Refused : Type 0 where
  SealDiffers : Refused
  NoTicket : DiceStop → Refused

-- the panel of a row
abbrev pub panel_at : Lottery → ℕ → List ℕ
panel_at lottery row = slice_index_or (map (λ r. r.panel) lottery.rows) row []

abbrev pub drawn_with : Lottery → Result Named DiceStop → Result Drawn Refused
drawn_with lottery (Ok named) =
    let ticket = unsigned_abs named.ticket in
    Ok (record { ticket = ticket; used = named.used; panel = panel_at lottery (row_of (weights_of lottery) ticket) })
drawn_with lottery (Err stop) = Err (NoTicket stop)

abbrev pub draw : Lottery → List ℕ → List ℕ → List ℕ → Result Drawn Refused
draw lottery kept given digits =
    if is_seal kept given then drawn_with lottery (name_ticket lottery.total digits) else Err SealDiffers
