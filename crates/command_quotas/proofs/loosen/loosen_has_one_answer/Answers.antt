use Rattle.command_quotas.proofs.OneAnswer.{loosen_once}
use Rattle.command_quotas.proofs.loosen.loosen_has_one_answer.Goals as goal

pub returns : goal.returns
returns c = loosen_once
