use Rattle.std.proofs.Common.{◌≡◌, Some}
use Rattle.std.proofs.lemmas.Result.{IfOk-weaker}
use Rattle.command_meanings.specs.Prove.{first_beyond}
use Rattle.command_shell.specs.Answers.{saying}
use Rattle.command_proofs.proofs.Proved.{beyond_told}
use Rattle.command_proofs.proofs.settling.certified.Goals as goal

pub returns-in-Some-clause-right : goal.returns-in-Some-clause-right
returns-in-Some-clause-right c =
    let is : first_beyond c.args.bundle.now.answer.stages ≡ Some c.in-Some.stage = cc (c.first_beyond.ensures, c.in-Some.is, c.answer.ensures.value, c.certificate.ensures, c.stages.ensures) in
    IfOk-weaker c.beyond_answer.result _ _
    (λ answer tells. λ about over. beyond_told c.args.trees.now (saying answer) about c.args.bundle.now c.in-Some.stage over c.requires is tells)
    c.beyond_answer.ensures
