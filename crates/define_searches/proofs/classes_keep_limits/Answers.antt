use Rattle.define_searches.proofs.Limits.{limits_kept}
use Rattle.define_searches.proofs.classes_keep_limits.Goals as goal

pub returns : goal.returns
returns c = limits_kept
