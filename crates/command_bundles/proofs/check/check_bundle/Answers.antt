use Rattle.std.proofs.lemmas.Result.{IfOk-weaker}
use Rattle.command_shell.specs.Answers.{saying}
use Rattle.command_bundles.proofs.Checked.{stop_is_told, verdict_is_told}
use Rattle.command_bundles.proofs.check.check_bundle.Goals as goal

pub returns-in-Ok : goal.returns-in-Ok
returns-in-Ok c =
    let says = c.in-Ok.ensures in
    IfOk-weaker c.verdict_answer.result _ _
    (λ answer tells. verdict_is_told c.args.nodes c.args.bundle.now c.in-Ok.verdict (saying answer) says.answer says.valid says.greatest says.refused tells)
    c.verdict_answer.ensures

pub returns-in-Err : goal.returns-in-Err
returns-in-Err c =
    IfOk-weaker c.check_stop_answer.result _ _
    (λ answer tells. stop_is_told c.args.nodes c.args.bundle.now c.in-Err.stop (saying answer) c.in-Err.ensures.answer tells)
    c.check_stop_answer.ensures
