use Rattle.std.proofs.Common.{true, arith}
use Rattle.panel_search.proofs.searching.Search.from_the_empty_front.Goals as goal
use Rattle.define_searches.proofs.FirstSearch.{taken_none}

pub is_alive-requires-clause-small : goal.is_alive-requires-clause-small
is_alive-requires-clause-small c = omega (arith, taken_none (λ class. true) c.args.classes.now.classes)
