use Rattle.define_pools.proofs.Greatest.{greatest_from_Certifies}
use Rattle.define_proofs.proofs.Verdicts.{certified_where_valid}
use Rattle.define_proofs.proofs.valid_is_greatest.Goals as goal

pub returns : goal.returns
returns c pool answer trees ranges valid = greatest_from_Certifies pool answer.lottery answer.stages (certified_where_valid pool answer trees ranges valid).0
