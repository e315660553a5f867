use Rattle.std.proofs.lemmas.Result.{IfOk-weaker}
use Rattle.command_shell.specs.Answers.{saying}
use Rattle.command_bundles.proofs.MadeCovers.{cover_stop_is_told, covered_is_told}
use Rattle.command_bundles.proofs.its_cover.covered.Goals as goal

pub returns-in-Ok : goal.returns-in-Ok
returns-in-Ok c =
    let says = c.in-Ok.ensures in
    IfOk-weaker c.told.result _ _
    (λ answer tells. covered_is_told c.args.nodes c.args.bundle.now c.in-Ok.covered (saying answer) c.facts.ensures says.answer says.made says.accepted tells)
    c.told.ensures

pub returns-in-Err : goal.returns-in-Err
returns-in-Err c =
    IfOk-weaker c.check_stop_answer.result _ _
    (λ answer tells. cover_stop_is_told c.args.nodes c.args.bundle.now c.in-Err.stop (saying answer) c.in-Err.ensures.answer tells)
    c.check_stop_answer.ensures
