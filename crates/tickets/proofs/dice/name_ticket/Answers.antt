use Rattle.std.proofs.Common.{sym}
use Rattle.tickets.proofs.Groups.{digits_alone}
use Rattle.tickets.proofs.dice.name_ticket.Goals as goal

pub first_named-requires-clause-digits : goal.first_named-requires-clause-digits
first_named-requires-clause-digits c = digits_alone c.args.digits.now (sym c.in-None.ensures)
