use Rattle.define_searches.proofs.FirstSearch.{search_finds_first}
use Rattle.define_searches.proofs.first_search_is_first.Goals as goal

pub returns : goal.returns
returns c = search_finds_first
