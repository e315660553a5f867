use Rattle.std.proofs.Common.{◌≡◌, map, take}
use Rattle.define_draws.specs.Short.{remainder}
use Rattle.short_tickets.specs.Parts.{weights_in}
use Rattle.short_tickets.proofs.rows.remainders_of.Given as goal

-- `remainders` are those of the rows read so far
abbrev pub invariant-loop-row : goal.invariant-loop-row
invariant-loop-row l = l.remainders.items ≡ map (remainder l.total l.tickets) (take l.row-index (weights_in l.rows))
