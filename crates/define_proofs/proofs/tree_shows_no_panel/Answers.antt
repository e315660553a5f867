use Rattle.define_proofs.proofs.TreeShows.{is_none, no_panels}
use Rattle.define_proofs.proofs.tree_shows_no_panel.Goals as goal

pub returns : goal.returns
returns c = record { none = no_panels; no_list = λ pool tree panel shows. is_none pool tree shows panel }
