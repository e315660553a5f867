use Rattle.define_searches.proofs.PoolClasses.{classes_in_order}
use Rattle.define_searches.proofs.classes_are_searchable.Goals as goal

pub returns : goal.returns
returns c = classes_in_order
