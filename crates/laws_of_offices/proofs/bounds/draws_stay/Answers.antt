use Rattle.laws_of_offices.proofs.Kept.{draws_stay, tickets_stay}
use Rattle.laws_of_offices.proofs.bounds.draws_stay.Goals as goal

pub returns : goal.returns
returns c = record { tickets = tickets_stay; draws = draws_stay }
