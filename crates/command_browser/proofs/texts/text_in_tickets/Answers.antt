use Rattle.std.proofs.lemmas.Result.{IfOk-weaker}
use Rattle.command_shell.specs.Formats.{bundle_format}
use Rattle.command_meanings.specs.Question.{QuestionMeans}
use Rattle.command_questions.specs.Questions.{question_text}
use Rattle.command_questions.specs.declared.questions.Question.TheVariants as question
use Rattle.command_browser.specs.Told.{TextOf}
use Rattle.command_browser.proofs.Telling.{counted_so}
use Rattle.command_browser.proofs.texts.text_in_tickets.Goals as goal

pub returns-in-Some : goal.returns-in-Some
returns-in-Some c =
    IfOk-weaker c.text_of.result _ _
    (λ text right. counted_so c.args.tickets c.in-Some.tickets c.new.result (λ tickets. TextOf bundle_format (QuestionMeans (question_text (question.InTickets tickets c.args.answer))) c.args.bundle.now) _ c.new.ensures c.in-Some.is right)
    c.text_of.ensures
