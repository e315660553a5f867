use Rattle.define_proofs.proofs.TreeShows.{capped}
use Rattle.define_proofs.proofs.tree_shows_cap.Goals as goal

pub returns : goal.returns
returns c = capped
