use Rattle.std.proofs.lemmas.Result.{IfOk-weaker}
use Rattle.command_browser.specs.Told.{Read}
use Rattle.command_browser.proofs.Telling.{pages_so}
use Rattle.command_browser.proofs.texts.text_of_drawn_page.Goals as goal

pub returns-in-Ok : goal.returns-in-Ok
returns-in-Ok c =
    let digits = c.in-Ok.ensures.cases in
    IfOk-weaker c.text_of.result _ _ (λ text right. Read digits.1 (pages_so _ _ _ _ _ digits.0 right)) c.text_of.ensures
