use Rattle.command_questions.proofs.OneAnswer.{question_once}
use Rattle.command_questions.proofs.questions.questions_have_one_answer.Goals as goal

pub returns : goal.returns
returns c = question_once
