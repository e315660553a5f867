use Rattle.define_searches.proofs.Below.{finds_best, found_qualifies, none_where}
use Rattle.define_searches.proofs.waves.search_from_finds_best.Goals as goal

pub returns-clause-best : goal.returns-clause-best
returns-clause-best c = finds_best

pub returns-clause-found : goal.returns-clause-found
returns-clause-found c = found_qualifies

pub returns-clause-none : goal.returns-clause-none
returns-clause-none c = none_where
