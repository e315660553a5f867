-- What `page` answers: the page about a bundle, or about the bundle that a proof holds; with the digits of dice, also about the panel that
-- they draw, from all tickets or in a round number of them. Nothing is verified. Builds on BundlesOrProofs of `command_shell`, on the pages of `bundle_page`, and on
-- the meanings of `draw`, `short-draw`, `seal` and `bundle`.
use Rattle.std.specs.Prelude.{◌≡◌, ℕ, List, Option, Some, None, Ok}
use Rattle.define_bundles.specs.BundleText.{Bundle}
use Rattle.define_draws.specs.Draw.{Drawn, draw}
use Rattle.define_offices.specs.Pools.{lottery_in}
use Rattle.define_pools.specs.Lottery.{TotalAgrees}
use Rattle.bundle_page.specs.Page.{drawn_page_text, page_text}
use Rattle.command_shell.specs.Answers.{RightAnswers, no_answer}
use Rattle.command_meanings.specs.ShortDraw.{ShortDrawMeans}
use Rattle.command_meanings.specs.Draw.{DrawMeans, HasWrongTotal}
use Rattle.command_meanings.specs.ItsBundle.{no_lottery_line}
use Rattle.define_draws.specs.Lines.{bundle_seal}
use Rattle.command_shell.specs.declared.bundle_or_proof.BundleOrProof.{BundleOrProof}
use Rattle.command_shell.specs.BundlesOrProofs.{bundle_in}

-- ---- the page about a bundle, without the digits of dice

-- the weights sum to the total, and the text is the page, with the bundle's own seal
pub record PrintsPage (bundle : Bundle) (text : List ℕ) : Type 0 where
  pub total : TotalAgrees bundle.answer.lottery
  pub page : text ≡ page_text bundle (bundle_seal bundle)

abbrev pub PageOfBundle : Bundle → RightAnswers
PageOfBundle bundle = record no_answer {
  -- status 0
  done = PrintsPage bundle;
  -- status 3
  input = HasWrongTotal bundle;
}

-- ---- the page about a bundle and the draw of some digits

-- which answers are right for the draw alone: those of `draw`, or of `short-draw` if a number of tickets is given
abbrev pub draw_means : Option ℕ → List ℕ → List ℕ → Bundle → RightAnswers
draw_means None given digits bundle = DrawMeans given digits bundle
draw_means (Some tickets) given digits bundle = ShortDrawMeans tickets given digits bundle

-- the weights sum to the total, the digits draw a panel, and the text is the page with this draw
pub record PrintsDrawnPage (tickets : Option ℕ) (digits : List ℕ) (bundle : Bundle) (text : List ℕ) : Type 0 where
  pub drawn : Drawn
  pub total : TotalAgrees bundle.answer.lottery
  pub draws : draw (lottery_in tickets bundle.answer.lottery) (bundle_seal bundle) (bundle_seal bundle) digits ≡ Ok drawn
  pub page : text ≡ drawn_page_text bundle (bundle_seal bundle) digits (lottery_in tickets bundle.answer.lottery).total drawn

abbrev pub DrawnPageOfBundle : Option ℕ → List ℕ → Bundle → RightAnswers
DrawnPageOfBundle tickets digits bundle = record no_answer {
  -- status 0
  done = PrintsDrawnPage tickets digits bundle;
  -- status 3
  input = HasWrongTotal bundle;
  -- status 6: the refusal of `draw` or `short-draw` for the bundle's own seal
  rule = (draw_means tickets (bundle_seal bundle) digits bundle).rule;
}

-- ---- what `page` answers about a bundle or a proof

-- what is right to answer about a proof that there is no quota panel, which has no lottery
abbrev pub WithoutLottery : RightAnswers
WithoutLottery = record no_answer {
  -- status 6
  rule = λ text. text ≡ no_lottery_line;
}

abbrev pub about : (Bundle → RightAnswers) → Option Bundle → RightAnswers
about Means (Some bundle) = Means bundle
about Means None = WithoutLottery

abbrev pub PageMeans : BundleOrProof → RightAnswers
PageMeans input = about PageOfBundle (bundle_in input)

abbrev pub DrawnPageMeans : Option ℕ → List ℕ → BundleOrProof → RightAnswers
DrawnPageMeans tickets digits input = about (DrawnPageOfBundle tickets digits) (bundle_in input)
