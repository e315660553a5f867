use Rattle.laws_of_runs.proofs.FoundEnds.{lottery, within}
use Rattle.laws_of_runs.proofs.found_is_lottery.Goals as goal

pub returns : goal.returns
returns c = record { lottery = lottery; within = within }
