use Rattle.define_proofs.proofs.Refused.{refusal_means}
use Rattle.define_proofs.proofs.refused_is_not_certified.Goals as goal

pub returns : goal.returns
returns c = refusal_means
