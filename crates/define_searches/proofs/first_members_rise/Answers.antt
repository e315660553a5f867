use Rattle.define_searches.proofs.PoolClasses.{first_panel_rises}
use Rattle.define_searches.proofs.first_members_rise.Goals as goal

pub returns : goal.returns
returns c = first_panel_rises
