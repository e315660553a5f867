use Rattle.define_quotas.proofs.Bounds.{more_costs, none_keeps}
use Rattle.define_quotas.proofs.costs.asking_more_costs.Goals as goal

pub returns-clause-more : goal.returns-clause-more
returns-clause-more c = more_costs

pub returns-clause-none : goal.returns-clause-none
returns-clause-none c = none_keeps
