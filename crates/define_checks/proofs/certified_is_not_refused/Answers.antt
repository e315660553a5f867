use Rattle.define_checks.proofs.Budget.{never_refused}
use Rattle.define_checks.proofs.certified_is_not_refused.Goals as goal

pub returns : goal.returns
returns c = never_refused
