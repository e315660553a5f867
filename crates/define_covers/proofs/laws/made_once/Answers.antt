use Rattle.define_covers.proofs.Once.{searched_once, trees_searched_once}
use Rattle.define_covers.proofs.laws.made_once.Goals as goal

pub returns-clause-lines : goal.returns-clause-lines
returns-clause-lines c = searched_once

pub returns-clause-trees : goal.returns-clause-trees
returns-clause-trees c = trees_searched_once
