use Rattle.define_made_pools.proofs.Chances.{greatest_is_one, least_is_one, none_is_greater, none_is_less}
use Rattle.define_made_pools.proofs.least_and_greatest.Goals as goal

pub returns-clause-least : goal.returns-clause-least
returns-clause-least c = least_is_one

pub returns-clause-none_less : goal.returns-clause-none_less
returns-clause-none_less c = none_is_less

pub returns-clause-greatest : goal.returns-clause-greatest
returns-clause-greatest c = greatest_is_one

pub returns-clause-none_greater : goal.returns-clause-none_greater
returns-clause-none_greater c = none_is_greater
