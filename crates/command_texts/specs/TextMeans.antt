-- Which answers are right for each command that reads one text: the format that its input is read in, and the command's meaning, which says
-- what is right at each of its statuses. The meanings are in `command_meanings/specs`.
use Rattle.std.specs.Prelude.{ℕ, List}
use Rattle.command_meanings.specs.ShortDraw.{ShortDrawMeans}
use Rattle.command_meanings.specs.CheckCover.{CheckCoverMeans}
use Rattle.command_bundles.specs.CoverFormat.{cover_format}
use Rattle.command_meanings.specs.ItsCover.{CoverMeans}
use Rattle.command_explain.specs.AnyTexts.{any_format, fault_in}
use Rattle.command_meanings.specs.Explain.{Explains}
use Rattle.command_meanings.specs.LoosenByProof.{LoosenByProofMeans}
use Rattle.command_meanings.specs.Loosening.{LoosenMeans}
use Rattle.command_meanings.specs.Check.{CheckMeans}
use Rattle.command_meanings.specs.Draw.{DrawMeans}
use Rattle.command_meanings.specs.ItsBundle.{BundleMeans}
use Rattle.command_meanings.specs.Panel.{PanelMeans}
use Rattle.command_meanings.specs.Seal.{SealMeans}
use Rattle.command_meanings.specs.Verify.{VerifyMeans}
use Rattle.command_shell.specs.BundlesOrProofs.{bundle_or_proof_format}
use Rattle.command_meanings.specs.Page.{DrawnPageMeans, PageMeans}
use Rattle.command_meanings.specs.Question.{QuestionMeans}
use Rattle.command_questions.specs.Questions.{question_text}
use Rattle.command_shell.specs.Answers.{IsRight, IsTheAnswer, RightAnswers, Saying}
use Rattle.command_shell.specs.Formats.{bundle_format, pool_format, proof_format}
use Rattle.command_shell.specs.Subjects.{About, Format}
use Rattle.command_quotas.specs.PoolsAndProofs.{pool_in, pool_or_proof_format}
use Rattle.command_meanings.specs.Why.{WhyMeans}
use Rattle.command_texts.specs.declared.commands.TextCommand.{TextCommand}
use Rattle.command_texts.specs.declared.commands.TextCommand.TheVariants as text

-- the answer is the only one that is right about the value that the bytes spell, or the line of their first fault
abbrev pub OneAnswer : {Value : Type 0} → Format Value → (Value → RightAnswers) → List ℕ → Saying → Type 0
OneAnswer format Means = About format (λ value. IsTheAnswer (Means value))

-- the right answers of a command about the bytes of its input
abbrev pub TextMeans : TextCommand → List ℕ → Saying → Type 0
-- the engines of `why` and `loosen-by-proof` have no definition: nothing says which of a pool's conflicts or least loosenings is told, nor
-- how an engine spends the budget of the words
TextMeans (text.Why it) = About pool_or_proof_format (λ about. IsRight (WhyMeans (pool_in about)))
TextMeans (text.LoosenByProof it) = About pool_format (λ pool. IsRight (LoosenByProofMeans pool))
-- `explain` reads any bytes. What its words are isn't defined, only which status comes, and the first line of the words at status 3
TextMeans (text.Explain it) = About any_format (λ text. Explains (fault_in text))
TextMeans (text.Verify it) = OneAnswer proof_format VerifyMeans
TextMeans (text.Bundle it) = OneAnswer proof_format BundleMeans
TextMeans (text.Seal it) = OneAnswer bundle_format SealMeans
TextMeans (text.Draw seal digits) = OneAnswer bundle_format (DrawMeans seal digits)
TextMeans (text.ShortDraw tickets seal digits) = OneAnswer bundle_format (ShortDrawMeans tickets seal digits)
TextMeans (text.Page it) = OneAnswer bundle_or_proof_format PageMeans
TextMeans (text.DrawnPage tickets digits) = OneAnswer bundle_or_proof_format (DrawnPageMeans tickets digits)
TextMeans (text.Panel it) = OneAnswer pool_format (PanelMeans it.nodes)
TextMeans (text.Loosen it) = OneAnswer pool_format (LoosenMeans it.nodes)
TextMeans (text.Check it) = OneAnswer bundle_format (CheckMeans it.nodes)
TextMeans (text.Cover it) = OneAnswer bundle_format (CoverMeans it.nodes)
TextMeans (text.CheckCover it) = OneAnswer cover_format CheckCoverMeans
-- all questions about a bundle
TextMeans (text.Question it) = OneAnswer bundle_format (QuestionMeans (question_text it))
