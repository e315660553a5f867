use Rattle.define_searches.proofs.PoolClasses.{first_panels_fit}
use Rattle.define_searches.proofs.first_members_fit.Goals as goal

pub returns : goal.returns
returns c = first_panels_fit
