use Rattle.std.proofs.lemmas.Result.{IfOk-weaker}
use Rattle.command_shell.specs.Answers.{saying}
use Rattle.command_pools.proofs.make.answered.Goals as goal

pub returns : goal.returns
returns g c =
    let made = c.args.made.now in
    let once = c.make_has_one_answer.ensures made.seed made.volunteers made.limits in
    IfOk-weaker c.made_summary.result _ _ (λ answer right. record { right = right; only = λ other its. once other (saying answer) its right }) c.made_summary.ensures
