-- What is printed about a bundle in a round number of tickets. Builds on Dice and Tickets. `short` is the bundle whose lottery is shortened
-- (`shortened_bundle` of `define_draws`).
use Rattle.std.specs.Prelude.{ℕ, List, ◌∷◌, codes, map}
use Rattle.define_bundles.specs.BundleText.{Bundle, panel_line}
use Rattle.define_made_pools.specs.Summary.{number_line}
use Rattle.command_questions.specs.Dice.{dice_lines}
use Rattle.command_questions.specs.Tickets.{ticket_lines}
use Rattle.command_questions.specs.declared.short.InTickets.{InTickets}
use Rattle.command_questions.specs.declared.short.InTickets.TheVariants.{Dice, Panels, Ranges}

-- the number of tickets, then a line for each panel: its tickets, and the numbers of its members
abbrev pub short_lines : Bundle → List (List ℕ)
short_lines short = number_line (codes "tickets") short.answer.lottery.total ∷ map panel_line short.answer.lottery.rows

abbrev pub lines_in_tickets : InTickets → Bundle → List (List ℕ)
lines_in_tickets Panels short = short_lines short
lines_in_tickets Dice short = dice_lines short
lines_in_tickets Ranges short = ticket_lines short
