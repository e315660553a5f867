use Rattle.define_covers.proofs.Verdicts.{valid_where_checked, valid_where_covered}
use Rattle.define_covers.proofs.laws.valid_covers.Goals as goal

pub returns-clause-covered : goal.returns-clause-covered
returns-clause-covered c = valid_where_covered

pub returns-clause-checked : goal.returns-clause-checked
returns-clause-checked c = valid_where_checked
