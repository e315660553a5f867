use Rattle.std.proofs.lemmas.Result.{IfOk-weaker}
use Rattle.command_browser.specs.Told.{Read}
use Rattle.command_browser.proofs.Telling.{short_draws_so}
use Rattle.command_browser.proofs.texts.text_drawn_in.Goals as goal

pub returns-in-Ok-Ok : goal.returns-in-Ok-Ok
returns-in-Ok-Ok c =
    let seal = c.in-Ok-Ok.ensures.cases in
    let digits = c.in-Ok-Ok.ensures'.cases in
    IfOk-weaker c.text_of.result _ _ (λ text right. Read (seal.1, digits.1) (short_draws_so _ _ _ _ _ _ _ seal.0 digits.0 right)) c.text_of.ensures
