use Rattle.laws_of_offices.proofs.BoundsLast.{bounds_last}
use Rattle.laws_of_offices.proofs.Open.{bounds_go_on, bounds_stay}
use Rattle.laws_of_offices.proofs.bounds.bounds_stay.Goals as goal

pub returns : goal.returns
returns c = record { stay = bounds_stay; last = bounds_last; go_on = bounds_go_on }
