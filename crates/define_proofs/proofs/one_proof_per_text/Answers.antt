use Rattle.std.proofs.Common.{ap}
use Rattle.define_proofs.specs.ProofReading.{read_proof}
use Rattle.define_proofs.proofs.ReadAgain.{spelled_is_read}
use Rattle.define_proofs.proofs.one_proof_per_text.Goals as goal

pub returns : goal.returns
returns c first second h k same =
    let one = spelled_is_read first h in let two = spelled_is_read second k in let both = ap read_proof same in cc
