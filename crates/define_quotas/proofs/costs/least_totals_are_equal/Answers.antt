use Rattle.define_quotas.proofs.Bounds.{equal_totals}
use Rattle.define_quotas.proofs.costs.least_totals_are_equal.Goals as goal

pub returns : goal.returns
returns c = equal_totals
