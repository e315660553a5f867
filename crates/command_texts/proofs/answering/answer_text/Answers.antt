use Rattle.command_texts.proofs.Equal.{as_command, draws_so, pages_so, short_draws_so}
use Rattle.command_texts.proofs.answering.answer_text.Goals as goal

pub returns-in-Verify : goal.returns-in-Verify
returns-in-Verify c = as_command _ _ _ _ c.in-Verify.is c.answer_about.ensures

pub returns-in-Bundle : goal.returns-in-Bundle
returns-in-Bundle c = as_command _ _ _ _ c.in-Bundle.is c.answer_about-in-Bundle.ensures

pub returns-in-Seal : goal.returns-in-Seal
returns-in-Seal c = as_command _ _ _ _ c.in-Seal.is c.answer_about-in-Seal.ensures

pub returns-in-Draw : goal.returns-in-Draw
returns-in-Draw c = as_command _ _ _ _ c.in-Draw.is (draws_so _ _ _ _ _ _ c.as_str.ensures c.as_str-in-Draw.ensures c.answer_about-in-Draw.ensures)

pub returns-in-ShortDraw : goal.returns-in-ShortDraw
returns-in-ShortDraw c = as_command _ _ _ _ c.in-ShortDraw.is (short_draws_so _ _ _ _ _ _ _ c.as_str-in-ShortDraw.ensures c.as_str-in-ShortDraw-2.ensures c.answer_about-in-ShortDraw.ensures)

pub returns-in-Panel : goal.returns-in-Panel
returns-in-Panel c = as_command _ _ _ _ c.in-Panel.is c.answer_about-in-Panel.ensures

pub returns-in-Loosen : goal.returns-in-Loosen
returns-in-Loosen c = as_command _ _ _ _ c.in-Loosen.is c.answer_about-in-Loosen.ensures

pub returns-in-Why : goal.returns-in-Why
returns-in-Why c = as_command _ _ _ _ c.in-Why.is c.answer_about-in-Why.ensures

pub returns-in-LoosenByProof : goal.returns-in-LoosenByProof
returns-in-LoosenByProof c = as_command _ _ _ _ c.in-LoosenByProof.is c.answer_about-in-LoosenByProof.ensures

pub returns-in-Page : goal.returns-in-Page
returns-in-Page c = as_command _ _ _ _ c.in-Page.is c.answer_about-in-Page.ensures

pub returns-in-DrawnPage : goal.returns-in-DrawnPage
returns-in-DrawnPage c = as_command _ _ _ _ c.in-DrawnPage.is (pages_so _ _ _ _ _ c.as_str-in-DrawnPage.ensures c.answer_about-in-DrawnPage.ensures)

pub returns-in-Check : goal.returns-in-Check
returns-in-Check c = as_command _ _ _ _ c.in-Check.is c.answer_about-in-Check.ensures

pub returns-in-Question : goal.returns-in-Question
returns-in-Question c = as_command _ _ _ _ c.in-Question.is c.answer_about-in-Question.ensures

pub returns-in-Explain : goal.returns-in-Explain
returns-in-Explain c = as_command _ _ _ _ c.in-Explain.is c.answer_about-in-Explain.ensures

pub returns-in-Cover : goal.returns-in-Cover
returns-in-Cover c = as_command _ _ _ _ c.in-Cover.is c.answer_about-in-Cover.ensures

pub returns-in-CheckCover : goal.returns-in-CheckCover
returns-in-CheckCover c = as_command _ _ _ _ c.in-CheckCover.is c.answer_about-in-CheckCover.ensures
