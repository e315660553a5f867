use Rattle.laws_of_runs.proofs.Certified.{found_certified}
use Rattle.laws_of_runs.proofs.found_is_certified.Goals as goal

pub returns : goal.returns
returns c = found_certified
