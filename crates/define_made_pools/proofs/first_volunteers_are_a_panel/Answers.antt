use Rattle.define_made_pools.proofs.MadePools.{first_are_panel}
use Rattle.define_made_pools.proofs.first_volunteers_are_a_panel.Goals as goal

pub returns : goal.returns
returns c = first_are_panel
