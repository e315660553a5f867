use Rattle.define_searches.proofs.Best.{price_best, price_none_where}
use Rattle.define_searches.proofs.price_is_best.Goals as goal

pub returns : goal.returns
returns c = record { best = price_best; none = price_none_where }
