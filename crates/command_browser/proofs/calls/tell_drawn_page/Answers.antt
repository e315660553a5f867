use Rattle.std.proofs.Common.{ℕ, None, Vec, Global}
use Rattle.std.proofs.lemmas.Result.{IfOk-weaker}
use Rattle.command_shell.specs.BundlesOrProofs.{bundle_or_proof_format}
use Rattle.command_meanings.specs.Page.{DrawnPageMeans}
use Rattle.command_browser.proofs.HasBytes.{drawn_page_some, text_some, with_words_some}
use Rattle.command_browser.proofs.Telling.{told_so}
use Rattle.command_browser.proofs.calls.tell_drawn_page.Goals as goal

pub tell-requires : goal.tell-requires
tell-requires c =
    let digits = c.args.digits.now in
    IfOk-weaker c.text_of_drawn_page.result _ _
    (λ text right. with_words_some _ _ (λ text right. text_some bundle_or_proof_format (DrawnPageMeans None digits) (drawn_page_some digits) _ _ right) _ right)
    c.text_of_drawn_page.ensures

pub returns : goal.returns
returns c = told_so (λ (text : Vec ℕ Global). text.items) _ _ _ _ _ c.text_of_drawn_page.ensures c.tell.ensures.told c.tell.ensures.none c.tell.ensures.alone
