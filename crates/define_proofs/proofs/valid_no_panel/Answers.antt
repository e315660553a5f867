use Rattle.define_proofs.proofs.Verdicts.{no_panel_where_valid, of_tree_where_valid, valid_where_of_tree}
use Rattle.define_proofs.proofs.valid_no_panel.Goals as goal

pub returns : goal.returns
returns c = record {
  where_shown = λ pool lines. (of_tree_where_valid pool lines, valid_where_of_tree pool lines);
  none = no_panel_where_valid;
}
