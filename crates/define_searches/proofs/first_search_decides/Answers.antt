use Rattle.define_searches.proofs.PoolClasses.{search_answers, search_finds_none}
use Rattle.define_searches.proofs.first_search_decides.Goals as goal

pub returns : goal.returns
returns c = record { answer = search_answers; none = search_finds_none }
