use Rattle.std.proofs.Common.{◌≡◌, ◌-◌, map, take}
use Rattle.define_draws.specs.Short.{remainder, rows_with_tickets, tickets_by_weight}
use Rattle.define_draws.proofs.Ranks.{on}
use Rattle.short_tickets.specs.Parts.{weights_in}
use Rattle.short_tickets.proofs.rows.rows_with_tickets.Given as goal

-- `kept` are the rows read so far that have a ticket, and the ties of `line` are how many rows on the line may still get one
abbrev pub invariant-loop-row : goal.invariant-loop-row
invariant-loop-row l = record {
  kept : l.kept.items ≡ rows_with_tickets (take l.row-index l.rows) (take l.row-index (tickets_by_weight l.total l.tickets (weights_in l.rows)));
  line : l.line.remainder ≡ l.fn.line.remainder;
  ties : l.line.ties ≡ l.fn.line.ties - on l.fn.line.remainder (take l.row-index (map (remainder l.total l.tickets) (weights_in l.rows)));
}
