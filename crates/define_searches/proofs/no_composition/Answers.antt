use Rattle.define_searches.proofs.PoolClasses.{no_panel_of_classes}
use Rattle.define_searches.proofs.no_composition.Goals as goal

pub returns : goal.returns
returns c = no_panel_of_classes
