use Rattle.define_quotas.proofs.Asking.{asking_more}
use Rattle.define_quotas.proofs.asking_more_misses.Goals as goal

pub returns : goal.returns
returns c pool weighted all greatest misses = asking_more pool weighted all greatest misses
