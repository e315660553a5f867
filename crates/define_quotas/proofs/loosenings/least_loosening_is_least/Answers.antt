use Rattle.define_searches.proofs.AlikeClasses.{alike_makes}
use Rattle.define_quotas.proofs.Least.{least_loosening_least, no_loosening}
use Rattle.define_quotas.proofs.loosenings.least_loosening_is_least.Goals as goal

pub returns : goal.returns
returns c = record { least = λ pool loosening p e. least_loosening_least pool p (alike_makes pool) loosening e; none = λ pool. no_loosening pool (alike_makes pool) }
