use Rattle.std.proofs.Common.{true, arith}
use Rattle.define_searches.proofs.FirstSearch.{taken_none}
use Rattle.quota_loosen.proofs.searching.Search.from_the_empty_front.Goals as goal

pub is_live-requires-clause-small : goal.is_live-requires-clause-small
is_live-requires-clause-small c = omega (arith, taken_none (λ class. true) c.args.classes.now.classes)

pub enter-requires-clause-small : goal.enter-requires-clause-small
enter-requires-clause-small c = omega (arith, taken_none (λ class. true) c.args.classes.now.classes)
