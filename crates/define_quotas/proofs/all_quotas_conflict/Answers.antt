use Rattle.define_quotas.proofs.AllTogether.{all_conflict}
use Rattle.define_quotas.proofs.all_quotas_conflict.Goals as goal

pub returns : goal.returns
returns c = all_conflict
