use Rattle.define_proofs.proofs.Reaches.{all_in_reach, no_panel_in_reach}
use Rattle.define_proofs.proofs.constraints_are_in_reach.Goals as goal

pub returns : goal.returns
returns c = record { constraints = λ pool earlier is. all_in_reach pool is earlier; no_panel = no_panel_in_reach }
