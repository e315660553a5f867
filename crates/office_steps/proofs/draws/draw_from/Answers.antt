use Rattle.std.proofs.lemmas.Result.{IfOk-weaker}
use Rattle.office_steps.proofs.Members.{drawn_in_range}
use Rattle.office_steps.proofs.draws.draw_from.Goals as goal

pub returns-clause-members : goal.returns-clause-members
returns-clause-members c = IfOk-weaker c.draw.result _ _ (λ drawn row. drawn_in_range c.args.bundle.now drawn c.facts.ensures row) c.draw.ensures.row
