use Rattle.std.proofs.lemmas.Result.{IfOk-weaker}
use Rattle.command_shell.specs.Answers.{saying}
use Rattle.command_quotas.proofs.BySearch.{right_by_search}
use Rattle.command_quotas.proofs.loosen_by_proof.searched.Goals as goal

pub returns : goal.returns
returns c = IfOk-weaker c.answered.result _ _ (λ answer right. right_by_search c.args.pool.now (saying answer) right) c.answered.ensures
