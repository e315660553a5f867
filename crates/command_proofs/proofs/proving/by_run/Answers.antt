use Rattle.command_shell.specs.Answers.{saying}
use Rattle.command_proofs.proofs.Proved.{check_of_found}
use Rattle.command_proofs.proofs.proving.by_run.Goals as goal

pub returns-in-Found-clause-right : goal.returns-in-Found-clause-right
returns-in-Found-clause-right g c =
    let found = rw (c.lottery_limits.ensures, c.in-Found.is) at c.in_ok-bundle.ensures in
    check_of_found c.settle.new.trees c.args.pool.now _ (saying c.in-Checked.answer) found.0 found.1 (rw c.in-Checked.is at c.in_ok-answer-in-Found.ensures.right)
