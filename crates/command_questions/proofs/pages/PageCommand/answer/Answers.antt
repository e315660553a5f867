use Rattle.std.proofs.lemmas.Result.{IfOk-weaker}
use Rattle.command_shell.specs.Answers.{IsRight, IsTheAnswer, saying}
use Rattle.command_meanings.specs.Page.{PageMeans}
use Rattle.command_questions.proofs.pages.PageCommand.answer.Goals as goal

pub returns : goal.returns
returns c =
    let input = c.args.input.now in
    IfOk-weaker c.answered.result (λ answer. IsRight (PageMeans input) (saying answer)) (λ answer. IsTheAnswer (PageMeans input) (saying answer))
    (λ answer right. record { right = right; only = λ other also. c.page_has_one_answer.ensures input other (saying answer) also right }) c.answered.ensures
