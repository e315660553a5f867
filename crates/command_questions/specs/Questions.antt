-- The text of each question about a bundle, which is made of the bundle alone (CONTRIBUTING says how a further question is added). Builds
-- on Dice, Tickets, Chances and Short.
use Rattle.std.specs.Prelude.{ℕ, List}
use Rattle.define_bundles.specs.BundleText.{Bundle}
use Rattle.define_lines.specs.Lines.{text_of}
use Rattle.define_draws.specs.ShortBundle.{shortened_bundle}
use Rattle.command_questions.specs.declared.questions.Question.{Question}
use Rattle.command_questions.specs.declared.questions.Question.TheVariants.{Chances, Dice, InTickets, Tickets}
use Rattle.command_questions.specs.Chances.{lines_of_chances}
use Rattle.command_questions.specs.Dice.{dice_lines}
use Rattle.command_questions.specs.Short.{lines_in_tickets}
use Rattle.command_questions.specs.Tickets.{ticket_lines}

-- the text that answers a question about a bundle
abbrev pub question_text : Question → Bundle → List ℕ
question_text Dice bundle = text_of (dice_lines bundle)
question_text Tickets bundle = text_of (ticket_lines bundle)
question_text Chances bundle = text_of (lines_of_chances bundle)
question_text (InTickets tickets answer) bundle = text_of (lines_in_tickets answer (shortened_bundle bundle tickets))
