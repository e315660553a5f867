use Rattle.std.proofs.Common.{◌≡◌, ◌+◌, take}
use Rattle.std.specs.List.{sum_by}
use Rattle.define_draws.specs.Short.{whole_tickets}
use Rattle.short_tickets.specs.Parts.{weights_in}
use Rattle.short_tickets.proofs.rows.left_of.Given as goal

-- `left` and the whole tickets of the rows read so far sum to all tickets
abbrev pub invariant-loop-row : goal.invariant-loop-row
invariant-loop-row l = l.left + sum_by (whole_tickets l.total l.tickets) (take l.row-index (weights_in l.rows)) ≡ l.tickets
