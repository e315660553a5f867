use Rattle.laws_of_runs.proofs.Ranges.{found_in_ranges}
use Rattle.laws_of_runs.proofs.found_is_in_ranges.Goals as goal

pub returns : goal.returns
returns c = found_in_ranges
