use Rattle.office_tables.proofs.DrawnPanels.{draws_so}
use Rattle.office_tables.proofs.drawn.drawn_from.Goals as goal

pub returns-in-Ok : goal.returns-in-Ok
returns-in-Ok c = draws_so c.args.bundle.now c.args.digits.now c.in-Ok.drawn c.facts.ensures c.in-Ok.ensures.says c.in-Ok.ensures.row
