-- Which command that reads one text the words of a call ask for. `given_in` (command_words) matches the words to the program's table of
-- commands and options; this file tests the ranges of the numbers and makes the command.
use Rattle.std.specs.Prelude.{◌&&◌, ℕ, List, Option, Some, None, codes, if◌then◌else◌, nat_le, option_and_then, option_map}
use Rattle.command_proofs.specs.declared.proving.Prove.{Prove}
use Rattle.command_questions.specs.declared.questions.Question.{Question}
use Rattle.command_questions.specs.declared.questions.Question.TheVariants as question
use Rattle.command_questions.specs.declared.short.InTickets.{InTickets}
use Rattle.command_questions.specs.declared.short.InTickets.TheVariants as in_tickets
use Rattle.command_words.specs.Given.{Given, number_of, text_of}
use Rattle.command_words.specs.declared.words.CommandName.{CommandName}
use Rattle.command_words.specs.declared.words.CommandName.TheVariants as name
use Rattle.command_texts.specs.declared.commands.TextCommand.{TextCommand}
use Rattle.command_texts.specs.declared.commands.TextCommand.TheVariants as text

-- the budget of `prove`; None if the words don't give one
abbrev pub prove_in : Given → Option Prove
prove_in given =
    option_and_then (λ pivots. option_map (λ nodes. record { pivots = pivots; nodes = nodes }) (number_of (codes "nodes") given))
    (number_of (codes "pivots") given)

abbrev pub why_asked : Given → Option TextCommand
why_asked given =
    option_and_then (λ pivots. option_map (λ nodes. (text.Why (record { pivots = pivots; nodes = nodes }))) (number_of (codes "nodes") given))
    (number_of (codes "pivots") given)

abbrev pub loosen_by_proof_asked : Given → Option TextCommand
loosen_by_proof_asked given =
    option_and_then (λ pivots. option_map (λ nodes. (text.LoosenByProof (record { pivots = pivots; nodes = nodes }))) (number_of (codes "nodes") given))
    (number_of (codes "pivots") given)

abbrev pub draw_asked : Given → Option TextCommand
draw_asked given =
    option_and_then (λ seal. option_map (λ digits. text.Draw seal digits) (text_of (codes "digits") given)) (text_of (codes "seal") given)

abbrev pub tickets_from : ℕ → Option ℕ
tickets_from number = if nat_le 1 number && nat_le number 1000000000 then Some number else None

-- the number of tickets, from the option `tickets`; None if it is missing or not from 1 to 10 ^ 9
abbrev pub tickets_in : Given → Option ℕ
tickets_in given = option_and_then tickets_from (number_of (codes "tickets") given)

-- what is printed about a bundle in this number of tickets
abbrev pub in_tickets_asked : InTickets → ℕ → TextCommand
in_tickets_asked answer tickets = (text.Question (question.InTickets tickets answer))

abbrev pub question_from : Question → InTickets → Option ℕ → Option TextCommand
question_from whole short (Some number) = option_map (in_tickets_asked short) (tickets_from number)
question_from whole short None = Some ((text.Question whole))

-- the question about a bundle that the words ask: `short` in a number of tickets if they give one, and else `whole`. None if the number of
-- tickets isn't from 1 to 10 ^ 9
abbrev pub question_asked : Question → InTickets → Given → Option TextCommand
question_asked whole short given = question_from whole short (number_of (codes "tickets") given)

abbrev pub short_draw_asked : Given → Option TextCommand
short_draw_asked given =
    option_and_then (λ tickets.
    option_and_then (λ seal. option_map (λ digits. (text.ShortDraw tickets seal digits)) (text_of (codes "digits") given)) (text_of (codes "seal") given))
    (tickets_in given)

-- the page about a bundle with the panel that the digits draw, in a round number of tickets if one is given; None if this number isn't from
-- 1 to 10 ^ 9
abbrev pub drawn_page_from : List ℕ → Option ℕ → Option TextCommand
drawn_page_from digits (Some number) = option_map (λ tickets. (text.DrawnPage (Some tickets) digits)) (tickets_from number)
drawn_page_from digits None = Some ((text.DrawnPage None digits))

-- the page about a bundle without a panel; None if a number of tickets is given
abbrev pub plain_page_from : Option ℕ → Option TextCommand
plain_page_from (Some number) = None
plain_page_from None = Some ((text.Page (record {})))

abbrev pub page_from : Option (List ℕ) → Option ℕ → Option TextCommand
page_from (Some digits) tickets = drawn_page_from digits tickets
page_from None tickets = plain_page_from tickets

abbrev pub command_asked : CommandName → Given → Option TextCommand
command_asked name.Verify given = Some (text.Verify (record {}))
command_asked name.Bundle given = Some (text.Bundle (record {}))
command_asked name.Seal given = Some (text.Seal (record {}))
command_asked name.Draw given = draw_asked given
command_asked name.Dice given = question_asked question.Dice in_tickets.Dice given
command_asked name.Tickets given = question_asked question.Tickets in_tickets.Ranges given
command_asked name.Short given = option_map (in_tickets_asked in_tickets.Panels) (tickets_in given)
command_asked name.ShortDraw given = short_draw_asked given
command_asked name.Chances given = Some (text.Question question.Chances)
command_asked name.Explain given = Some (text.Explain (record {}))
command_asked name.Panel given = option_map (λ nodes. text.Panel (record { nodes = nodes })) (number_of (codes "nodes") given)
command_asked name.Loosen given = option_map (λ nodes. text.Loosen (record { nodes = nodes })) (number_of (codes "nodes") given)
command_asked name.Why given = why_asked given
command_asked name.LoosenByProof given = loosen_by_proof_asked given
command_asked name.Page given = page_from (text_of (codes "drawn") given) (number_of (codes "tickets") given)
command_asked name.Check given = option_map (λ nodes. text.Check (record { nodes = nodes })) (number_of (codes "nodes") given)
command_asked name.Cover given = option_map (λ nodes. text.Cover (record { nodes = nodes })) (number_of (codes "nodes") given)
command_asked name.CheckCover given = Some (text.CheckCover (record {}))
command_asked other given = None

-- the command that reads one text, with its arguments; None if the words ask for a command of another kind, a value is missing or out of
-- its range, or options don't go together. A store that the words name is passed over
abbrev pub text_asked : Given → Option TextCommand
text_asked given = command_asked given.command given
