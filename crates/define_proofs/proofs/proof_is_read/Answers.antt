use Rattle.define_proofs.proofs.ReadAgain.{spelled_is_read}
use Rattle.define_proofs.proofs.proof_is_read.Goals as goal

pub returns : goal.returns
returns c = spelled_is_read
