use Rattle.laws_of_runs.proofs.NoPanels.{no_panel_is_within, no_panel_where_none, none_where_no_panel}
use Rattle.laws_of_runs.proofs.no_panel_where_none.Goals as goal

pub returns : goal.returns
returns c = record { none = none_where_no_panel; within = no_panel_is_within; ends = no_panel_where_none }
