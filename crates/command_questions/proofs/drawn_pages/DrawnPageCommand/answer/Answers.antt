use Rattle.std.proofs.lemmas.Result.{IfOk-weaker}
use Rattle.command_shell.specs.Answers.{IsRight, IsTheAnswer, saying}
use Rattle.command_meanings.specs.Page.{DrawnPageMeans}
use Rattle.command_questions.proofs.drawn_pages.DrawnPageCommand.answer.Goals as goal

pub returns : goal.returns
returns c =
    let tickets = c.args.self.now.tickets in
    let digits = c.args.self.now.digits.now in
    let input = c.args.input.now in
    IfOk-weaker c.answered.result (λ answer. IsRight (DrawnPageMeans tickets digits input) (saying answer)) (λ answer. IsTheAnswer (DrawnPageMeans tickets digits input) (saying answer))
    (λ answer right. record { right = right; only = λ other also. c.drawn_page_has_one_answer.ensures tickets digits input other (saying answer) also right }) c.answered.ensures
