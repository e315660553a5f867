use Rattle.define_pools.proofs.Greatest.{greatest_from_Certifies}
use Rattle.laws_of_runs.proofs.Certified.{found_certified}
use Rattle.laws_of_runs.proofs.found_is_greatest.Goals as goal

pub returns : goal.returns
returns c = λ pool alike makes limits last answer is_pool ranges ends. greatest_from_Certifies pool answer.lottery answer.stages (found_certified pool alike makes limits last answer is_pool ranges ends)
