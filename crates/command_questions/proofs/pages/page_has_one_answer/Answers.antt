use Rattle.command_questions.proofs.OnePage.{page_once}
use Rattle.command_questions.proofs.pages.page_has_one_answer.Goals as goal

pub returns : goal.returns
returns c = page_once
