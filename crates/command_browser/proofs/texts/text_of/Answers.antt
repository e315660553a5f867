use Rattle.std.proofs.Common.{arith}
use Rattle.command_shell.specs.Answers.{saying}
use Rattle.command_browser.specs.Told.{Answers}
use Rattle.command_browser.proofs.texts.text_of.Goals as goal

pub returns : goal.returns
returns g c = Answers (saying c.in_ok-answer.answer) (omega (arith, c.if-bytes-gt-INPUT_LIMIT.false)) c.in_ok-answer.ensures c.text_in.ensures
