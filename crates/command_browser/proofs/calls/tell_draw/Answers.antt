use Rattle.std.proofs.Common.{ℕ, Vec, Global}
use Rattle.std.proofs.lemmas.Result.{IfOk-weaker}
use Rattle.command_shell.specs.Formats.{bundle_format}
use Rattle.command_meanings.specs.Draw.{DrawMeans}
use Rattle.command_browser.proofs.HasBytes.{draw_some, text_some, with_words_some}
use Rattle.command_browser.proofs.Telling.{told_so}
use Rattle.command_browser.proofs.calls.tell_draw.Goals as goal

pub tell-requires : goal.tell-requires
tell-requires c =
    let seal = c.args.seal.now in
    let digits = c.args.digits.now in
    IfOk-weaker c.text_of_draw.result _ _
    (λ text right. with_words_some _ _ (λ text right. text_some bundle_format (DrawMeans seal digits) (draw_some seal digits) _ _ right) _ right) c.text_of_draw.ensures

pub returns : goal.returns
returns c = told_so (λ (text : Vec ℕ Global). text.items) _ _ _ _ _ c.text_of_draw.ensures c.tell.ensures.told c.tell.ensures.none c.tell.ensures.alone
