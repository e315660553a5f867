use Rattle.define_draws.proofs.DiceLemmas.{size-some, size-enough, size-least}
use Rattle.define_draws.proofs.group_size_is_least.Goals as goal

pub returns-clause-some : goal.returns-clause-some
returns-clause-some c = size-some

pub returns-clause-enough : goal.returns-clause-enough
returns-clause-enough c = size-enough

pub returns-clause-least : goal.returns-clause-least
returns-clause-least c = size-least
