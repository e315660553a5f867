use Rattle.std.proofs.Common.{Some}
use Rattle.std.specs.Prelude.{IsUtf8}
use Rattle.std.proofs.lemmas.Result.{IfOk-weaker}
use Rattle.command_shell.specs.BundlesOrProofs.{bundle_or_proof_format}
use Rattle.command_meanings.specs.Page.{DrawnPageMeans}
use Rattle.command_browser.specs.Told.{TextOf, WithWords}
use Rattle.command_browser.proofs.Telling.{counted_so}
use Rattle.command_browser.proofs.texts.text_of_short_drawn_page.Goals as goal

pub returns-in-Some : goal.returns-in-Some
returns-in-Some c =
    IfOk-weaker c.page_drawn_in.result _ _
    (λ text right. counted_so c.args.tickets c.in-Some.tickets c.new.result (λ tickets. WithWords (IsUtf8 c.args.digits.now) (TextOf bundle_or_proof_format (DrawnPageMeans (Some tickets) c.args.digits.now) c.args.input.now)) _ c.new.ensures c.in-Some.is right)
    c.page_drawn_in.ensures
