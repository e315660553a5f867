use Rattle.define_quotas.proofs.Bounds.{both_cost}
use Rattle.define_quotas.proofs.costs.both_parts_cost.Goals as goal

pub returns : goal.returns
returns c = both_cost
