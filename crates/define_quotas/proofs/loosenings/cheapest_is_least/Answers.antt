use Rattle.define_quotas.proofs.Least.{cheapest_is, none_is}
use Rattle.define_quotas.proofs.loosenings.cheapest_is_least.Goals as goal

pub returns : goal.returns
returns c = record { found = λ pool alike counts makes e. cheapest_is pool alike makes counts e; none = none_is }
