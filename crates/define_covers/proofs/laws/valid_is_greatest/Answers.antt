use Rattle.define_covers.proofs.Verdicts.{greatest_where_valid, valid_is_certified}
use Rattle.define_covers.proofs.laws.valid_is_greatest.Goals as goal

pub returns-clause-certified : goal.returns-clause-certified
returns-clause-certified c = valid_is_certified

pub returns-clause-greatest : goal.returns-clause-greatest
returns-clause-greatest c = greatest_where_valid
