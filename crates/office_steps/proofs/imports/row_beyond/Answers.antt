use Rattle.office_steps.proofs.RowsBeyond.{row_beyond-get}
use Rattle.office_steps.proofs.imports.row_beyond.Goals as goal

pub returns : goal.returns
returns c = row_beyond-get c.args.register.now c.args.rows c.get.result c.get.ensures.lookup.0 c.get.ensures.lookup.1
