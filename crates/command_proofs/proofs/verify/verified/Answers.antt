use Rattle.std.proofs.Common.{subst}
use Rattle.std.proofs.lemmas.Result.{IfOk-weaker}
use Rattle.command_shell.specs.Answers.{saying}
use Rattle.command_proofs.specs.Verified.{TellsVerdict}
use Rattle.command_proofs.proofs.Verified.{verdict_is_told}
use Rattle.command_proofs.proofs.verify.verified.Goals as goal

pub returns : goal.returns
returns c =
    let said = c.in_ok-verdict.ensures in
    IfOk-weaker c.told.result _ _
    (λ answer tells. verdict_is_told c.args.proof.now c.in_ok-verdict.verdict (saying answer) said.answer said.greatest said.none
    (subst (λ proof. TellsVerdict proof c.in_ok-verdict.verdict (saying answer)) c.parts.ensures tells))
    c.told.ensures
