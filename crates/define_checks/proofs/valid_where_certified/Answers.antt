use Rattle.define_checks.proofs.ReasonsStand.{certified_where_valid, valid_where_certified}
use Rattle.define_checks.proofs.valid_where_certified.Goals as goal

pub returns : goal.returns
returns c pool answer ranges = (certified_where_valid pool answer ranges, valid_where_certified pool answer)
