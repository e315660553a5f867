use Rattle.define_searches.proofs.ComposedPanels.{composed_panel_fits}
use Rattle.define_searches.proofs.composed_panels_fit.Goals as goal

pub returns : goal.returns
returns c pool alike counts panel makes listed up below composed = composed_panel_fits pool alike makes counts panel listed up below composed
