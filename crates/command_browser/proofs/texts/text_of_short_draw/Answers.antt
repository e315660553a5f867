use Rattle.std.specs.Prelude.{IsUtf8}
use Rattle.std.proofs.lemmas.Result.{IfOk-weaker}
use Rattle.command_shell.specs.Formats.{bundle_format}
use Rattle.command_meanings.specs.ShortDraw.{ShortDrawMeans}
use Rattle.command_browser.specs.Told.{TextOf, WithWords}
use Rattle.command_browser.proofs.Telling.{counted_so}
use Rattle.command_browser.proofs.texts.text_of_short_draw.Goals as goal

pub returns-in-Some : goal.returns-in-Some
returns-in-Some c =
    IfOk-weaker c.text_drawn_in.result _ _
    (λ text right. counted_so c.args.tickets c.in-Some.tickets c.new.result (λ tickets. WithWords (IsUtf8 c.args.seal.now × IsUtf8 c.args.digits.now) (TextOf bundle_format (ShortDrawMeans tickets c.args.seal.now c.args.digits.now) c.args.bundle.now)) _ c.new.ensures c.in-Some.is right)
    c.text_drawn_in.ensures
