use Rattle.define_quotas.proofs.Bounds.{least_by_bound, no_team_by_bound}
use Rattle.define_quotas.proofs.costs.cheapest_by_bound.Goals as goal

pub returns-clause-least : goal.returns-clause-least
returns-clause-least c = least_by_bound

pub returns-clause-none : goal.returns-clause-none
returns-clause-none c = no_team_by_bound
