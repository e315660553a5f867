-- What a question about a bundle answers: a text that is made of the bundle alone. `question_text` (command_questions) has the text of each
-- question.
use Rattle.std.specs.Prelude.{◌≡◌, ℕ, List}
use Rattle.define_bundles.specs.BundleText.{Bundle}
use Rattle.define_pools.specs.Lottery.{TotalAgrees}
use Rattle.command_shell.specs.Answers.{RightAnswers, no_answer}
use Rattle.command_meanings.specs.Draw.{HasWrongTotal}

-- the weights sum to the total, and the text is the one that is made of the bundle
pub record PrintsText (text_of : Bundle → List ℕ) (bundle : Bundle) (text : List ℕ) : Type 0 where
  pub total : TotalAgrees bundle.answer.lottery
  pub answers : text ≡ text_of bundle

abbrev pub QuestionMeans : (Bundle → List ℕ) → Bundle → RightAnswers
QuestionMeans text_of bundle = record no_answer {
  -- status 0
  done = PrintsText text_of bundle;
  -- status 3
  input = HasWrongTotal bundle;
}
