use Rattle.define_searches.proofs.NothingToPrice.{capped_where_nothing_priced}
use Rattle.define_searches.proofs.nothing_to_price.Goals as goal

pub returns : goal.returns
returns c = capped_where_nothing_priced
