use Rattle.define_runs.proofs.Kept.{reached_kept}
use Rattle.define_runs.proofs.reached_is_kept.Goals as goal

pub returns : goal.returns
returns c = λ all limits table limited ranges reached. reached_kept all limits limited ranges table reached
