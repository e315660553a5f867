-- A question has at most one right answer: its text, or the line of a wrong total.
use Rattle.std.proofs.Common.{◌∙◌, ap, sym, rules}
use Rattle.define_bundles.specs.BundleText.{Bundle}
use Rattle.command_shell.specs.declared.status.Printed.TheVariants.{Done}
use Rattle.command_shell.specs.declared.status.Cause.TheVariants.{Input}
use Rattle.command_shell.specs.Answers.{HasOneAnswer, Prints, Stops}
use Rattle.command_questions.specs.declared.questions.Question.{Question}
use Rattle.command_meanings.specs.Question.{QuestionMeans}
use Rattle.command_questions.specs.Questions.{question_text}

pub question_once : (question : Question) (bundle : Bundle) → HasOneAnswer (QuestionMeans (question_text question) bundle)
question_once question bundle (Prints Done a) (Prints Done b) x y = ap (Prints Done) (x.answers ∙ sym y.answers)
question_once question bundle (Prints Done a) (Stops Input b) x y = absurd (y.total x.total)
question_once question bundle (Stops Input a) (Prints Done b) x y = absurd (x.total y.total)
question_once question bundle (Stops Input a) (Stops Input b) x y = ap (Stops Input) (x.line ∙ sym y.line)
question_once question bundle first second x y = search rules
