use Rattle.define_searches.proofs.BestSearch.{search_keeps_price}
use Rattle.define_searches.proofs.best_search_is_price.Goals as goal

pub returns : goal.returns
returns c = search_keeps_price
