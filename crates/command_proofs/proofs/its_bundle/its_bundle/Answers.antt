use Rattle.std.proofs.Common.{subst}
use Rattle.std.proofs.lemmas.Result.{IfOk-weaker}
use Rattle.command_shell.specs.Answers.{IsRight, saying}
use Rattle.command_meanings.specs.ItsBundle.{BundleMeans}
use Rattle.command_proofs.proofs.its_bundle.its_bundle.Goals as goal

pub returns : goal.returns
returns c = IfOk-weaker c.told.result _ _ (λ answer means. subst (λ proof. IsRight (BundleMeans proof) (saying answer)) c.parts.ensures means) c.told.ensures
