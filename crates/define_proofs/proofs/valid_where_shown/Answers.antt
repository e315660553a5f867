use Rattle.define_proofs.proofs.Verdicts.{certified_where_valid, valid_where_certified}
use Rattle.define_proofs.proofs.valid_where_shown.Goals as goal

pub returns : goal.returns
returns c pool answer trees ranges = (certified_where_valid pool answer trees ranges, λ both. valid_where_certified pool answer trees both.0 both.1)
