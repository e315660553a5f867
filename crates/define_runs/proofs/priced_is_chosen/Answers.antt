use Rattle.define_runs.proofs.Priced.{is_chosen}
use Rattle.define_runs.proofs.priced_is_chosen.Goals as goal

pub returns : goal.returns
returns c = λ all limits table counts limited priced. is_chosen all limits table counts limited priced
