use Rattle.define_quotas.proofs.Splits.{both_miss}
use Rattle.define_quotas.proofs.both_parts_miss.Goals as goal

pub returns : goal.returns
returns c = both_miss
