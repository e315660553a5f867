use Rattle.command_quotas.proofs.WherePanel.{where_panel}
use Rattle.command_quotas.proofs.why.why_answers_where_panel_does.Goals as goal

pub returns : goal.returns
returns c = where_panel
