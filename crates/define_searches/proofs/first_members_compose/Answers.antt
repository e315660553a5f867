use Rattle.define_searches.proofs.PoolClasses.{first_panels_compose}
use Rattle.define_searches.proofs.first_members_compose.Goals as goal

pub returns : goal.returns
returns c = first_panels_compose
