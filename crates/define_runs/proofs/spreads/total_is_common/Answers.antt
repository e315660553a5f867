use Rattle.define_runs.proofs.CommonTotals.{common_total}
use Rattle.define_runs.proofs.spreads.total_is_common.Goals as goal

pub returns : goal.returns
returns c = common_total
