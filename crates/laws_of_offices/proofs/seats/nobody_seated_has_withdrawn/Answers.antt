use Rattle.laws_of_offices.proofs.SeatFolds.{members_have_not_withdrawn, seated_have_not_withdrawn, withdrawn_are_gone}
use Rattle.laws_of_offices.proofs.seats.nobody_seated_has_withdrawn.Goals as goal

pub returns : goal.returns
returns c = record { seated = seated_have_not_withdrawn; gone = withdrawn_are_gone; members = members_have_not_withdrawn }
