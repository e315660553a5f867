-- What `short-draw` answers: the panel that the digits of dice draw from a bundle in a round number of tickets, if the given seal is the
-- bundle's own. Its lines are those of `draw`.
use Rattle.std.specs.Prelude.{◌≡◌, ℕ, List, Ok, Err}
use Rattle.define_pools.specs.Lottery.{TotalAgrees}
use Rattle.define_bundles.specs.BundleText.{Bundle}
use Rattle.define_draws.specs.Draw.{Drawn, Refused, draw}
use Rattle.define_draws.specs.Short.{shortened}
use Rattle.command_shell.specs.Answers.{RightAnswers, no_answer}
use Rattle.command_meanings.specs.Draw.{HasWrongTotal, drawn_lines, refused_draw_line}
use Rattle.define_draws.specs.Lines.{bundle_seal}

-- the text is the two lines of the ticket and panel that are drawn
pub record PrintsShortDrawn (tickets : ℕ) (given digits : List ℕ) (bundle : Bundle) (text : List ℕ) : Type 0 where
  pub drawn : Drawn
  pub total : TotalAgrees bundle.answer.lottery
  pub draws : draw (shortened bundle.answer.lottery tickets) (bundle_seal bundle) given digits ≡ Ok drawn
  pub lines : text ≡ drawn_lines bundle drawn

-- the given seal isn't the bundle's, or the digits name no ticket; the text is the line that says which
pub record RefusesShortDraw (tickets : ℕ) (given digits : List ℕ) (bundle : Bundle) (text : List ℕ) : Type 0 where
  pub refused : Refused
  pub total : TotalAgrees bundle.answer.lottery
  pub draws : draw (shortened bundle.answer.lottery tickets) (bundle_seal bundle) given digits ≡ Err refused
  pub line : text ≡ refused_draw_line given (bundle_seal bundle) refused

abbrev pub ShortDrawMeans : ℕ → List ℕ → List ℕ → Bundle → RightAnswers
ShortDrawMeans tickets given digits bundle = record no_answer {
  -- status 0
  done = PrintsShortDrawn tickets given digits bundle;
  -- status 3
  input = HasWrongTotal bundle;
  -- status 6
  rule = RefusesShortDraw tickets given digits bundle;
}
