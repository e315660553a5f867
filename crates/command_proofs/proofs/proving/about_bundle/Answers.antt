use Rattle.command_shell.specs.Answers.{saying}
use Rattle.command_proofs.proofs.Proved.{check_of_given}
use Rattle.command_proofs.proofs.proving.about_bundle.Goals as goal

pub returns-in-Checked-clause-right : goal.returns-in-Checked-clause-right
returns-in-Checked-clause-right c = check_of_given c.settle.new.trees c.args.bundle.now (saying c.in-Checked.answer) (rw c.in-Checked.is at c.in_ok-answer.ensures.right)
