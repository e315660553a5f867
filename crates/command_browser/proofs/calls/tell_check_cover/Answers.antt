use Rattle.std.proofs.Common.{ℕ, Vec, Global}
use Rattle.std.proofs.lemmas.Result.{IfOk-weaker}
use Rattle.command_meanings.specs.CheckCover.{CheckCoverMeans}
use Rattle.command_bundles.specs.CoverFormat.{cover_format}
use Rattle.command_browser.proofs.HasBytes.{check_cover_some, text_some}
use Rattle.command_browser.proofs.Telling.{told_so}
use Rattle.command_browser.proofs.calls.tell_check_cover.Goals as goal

pub tell-requires : goal.tell-requires
tell-requires c = IfOk-weaker c.text_of.result _ _ (λ text right. text_some cover_format CheckCoverMeans check_cover_some _ _ right) c.text_of.ensures

pub returns : goal.returns
returns c = told_so (λ (text : Vec ℕ Global). text.items) _ _ _ _ _ c.text_of.ensures c.tell.ensures.told c.tell.ensures.none c.tell.ensures.alone
