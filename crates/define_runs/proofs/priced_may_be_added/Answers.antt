use Rattle.define_runs.proofs.Priced.{may_be_added}
use Rattle.define_runs.proofs.priced_may_be_added.Goals as goal

pub returns : goal.returns
returns c = λ all limits table counts limited priced. may_be_added all limits table counts limited priced
