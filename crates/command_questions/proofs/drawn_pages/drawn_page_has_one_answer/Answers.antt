use Rattle.command_questions.proofs.OnePage.{drawn_page_once}
use Rattle.command_questions.proofs.drawn_pages.drawn_page_has_one_answer.Goals as goal

pub returns : goal.returns
returns c = drawn_page_once
