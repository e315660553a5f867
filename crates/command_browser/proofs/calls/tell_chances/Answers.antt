use Rattle.std.proofs.Common.{ℕ, Vec, Global}
use Rattle.std.proofs.lemmas.Result.{IfOk-weaker}
use Rattle.command_shell.specs.Formats.{bundle_format}
use Rattle.command_meanings.specs.Question.{QuestionMeans}
use Rattle.command_questions.specs.Questions.{question_text}
use Rattle.command_questions.specs.declared.questions.Question.TheVariants.{Chances}
use Rattle.command_browser.proofs.HasBytes.{chances_some, text_some}
use Rattle.command_browser.proofs.Telling.{told_so}
use Rattle.command_browser.proofs.calls.tell_chances.Goals as goal

pub tell-requires : goal.tell-requires
tell-requires c = IfOk-weaker c.text_of.result _ _ (λ text right. text_some bundle_format (QuestionMeans (question_text Chances)) chances_some _ _ right) c.text_of.ensures

pub returns : goal.returns
returns c = told_so (λ (text : Vec ℕ Global). text.items) _ _ _ _ _ c.text_of.ensures c.tell.ensures.told c.tell.ensures.none c.tell.ensures.alone
