use Rattle.define_checks.proofs.CheckClasses.{alike_at_makes, alike_at_weigh}
use Rattle.define_checks.proofs.alike_at_make_classes.Goals as goal

pub returns : goal.returns
returns c = record { makes = alike_at_makes; weigh = alike_at_weigh }
