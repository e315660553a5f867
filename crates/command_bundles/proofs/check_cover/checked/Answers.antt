use Rattle.std.proofs.lemmas.Result.{IfOk-weaker}
use Rattle.command_shell.specs.Answers.{saying}
use Rattle.command_bundles.proofs.CheckedCovers.{verdict_is_told}
use Rattle.command_bundles.proofs.check_cover.checked.Goals as goal

pub returns : goal.returns
returns c =
    let said = c.in_ok-verdict.ensures in
    IfOk-weaker c.verdict_answer.result _ _
    (λ answer tells. verdict_is_told c.args.cover.now c.in_ok-verdict.verdict (saying answer) said.answer said.certified said.greatest tells)
    c.verdict_answer.ensures
