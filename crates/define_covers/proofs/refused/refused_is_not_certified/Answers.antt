use Rattle.define_covers.proofs.RefusedCovers.{refusal_means}
use Rattle.define_covers.proofs.refused.refused_is_not_certified.Goals as goal

pub returns : goal.returns
returns c = refusal_means
