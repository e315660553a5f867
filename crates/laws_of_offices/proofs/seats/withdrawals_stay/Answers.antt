use Rattle.laws_of_offices.proofs.Withdrawals as withdrawals
use Rattle.laws_of_offices.proofs.seats.withdrawals_stay.Goals as goal

pub returns : goal.returns
returns c = withdrawals.withdrawals_stay
