use Rattle.define_draws.proofs.TicketLemmas.{only_row, row_of_holds}
use Rattle.define_draws.proofs.each_ticket_has_one_row.Goals as goal

pub returns-clause-holds : goal.returns-clause-holds
returns-clause-holds c = row_of_holds

pub returns-clause-only : goal.returns-clause-only
returns-clause-only c = only_row
