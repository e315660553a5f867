use Rattle.define_draws.proofs.DrawLemmas.{draw-row}
use Rattle.define_draws.proofs.draws_the_row_of_the_ticket.Goals as goal

pub returns-clause-row : goal.returns-clause-row
returns-clause-row c = draw-row
