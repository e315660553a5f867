use Rattle.std.proofs.Common.{◌≡◌, ◌<◌, leb, ap, sym, ◌∙◌, subst, rules, arith, unsigned_abs}
use Rattle.std.specs.Prelude.{sum}
use Rattle.std.proofs.lemmas.Int.{to_z-of_z}
use Rattle.std.proofs.lemmas.List.Sorted.{IsPartitionPoint-from_clause}
use Rattle.define_draws.specs.Tickets.{HoldsTicket}
use Rattle.define_draws.proofs.TicketLemmas.{only_row}
use Rattle.tickets.specs.Ends.{gaps}
use Rattle.tickets.proofs.Ends.{held_at, parted}
use Rattle.tickets.proofs.ranges.pick.Goals as goal
use mir.Syntax.{w128}

pub returns-clause-holds : goal.returns-clause-holds
returns-clause-holds c =
    let ticket = c.unsigned_abs-ticket.result in
    let ends = c.table.inside.ends.items in
    let row = c.partition_point.result in
    let point = rw c.deref.ensures.value at
    (IsPartitionPoint-from_clause (λ end. leb end ticket) c.deref.result.now row c.partition_point.ensures.partitioned
    (rw c.deref.ensures.value (parted 0 ends ticket c.table.invariant)) (λ a r f k. search rules)) in
    let same : ticket ≡ unsigned_abs c.args.ticket = c.unsigned_abs-ticket.ensures.value ∙ ap unsigned_abs (to_z-of_z w128 c.args.ticket c.ranges.ticket) in
    let below : ticket < sum c.args.table.now = omega (arith, c.requires.below, same) in
    let holds = held_at ends row ticket c.table.invariant (subst (λ ws. ticket < sum ws) (sym c.table.view_is) below) point in
    subst (λ ws. HoldsTicket ws row (unsigned_abs c.args.ticket)) c.table.view_is (subst (λ t. HoldsTicket (gaps 0 ends) row t) same holds)

pub returns-clause-row : goal.returns-clause-row
returns-clause-row c = only_row c.args.table.now c.partition_point.result (unsigned_abs c.args.ticket) (returns-clause-holds c)
