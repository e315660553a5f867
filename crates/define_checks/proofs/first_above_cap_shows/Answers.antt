use Rattle.define_checks.proofs.PassedCaps.{capped_where_no_panel, no_panel_where_capped, panel_passes}
use Rattle.define_checks.proofs.first_above_cap_shows.Goals as goal

pub returns : goal.returns
returns c = record {
  none = λ pool earlier stage. (capped_where_no_panel pool earlier stage, no_panel_where_capped pool earlier stage);
  panel = λ pool earlier stage panel e. let passes = panel_passes pool earlier stage panel e in (passes.quota, passes.attained, passes.above);
}
