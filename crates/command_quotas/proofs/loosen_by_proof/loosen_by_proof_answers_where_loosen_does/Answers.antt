use Rattle.command_quotas.proofs.BySearch.{where_loosen}
use Rattle.command_quotas.proofs.loosen_by_proof.loosen_by_proof_answers_where_loosen_does.Goals as goal

pub returns : goal.returns
returns c = where_loosen
