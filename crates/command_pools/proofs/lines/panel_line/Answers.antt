use Rattle.define_pools.proofs.AllPanels.{quota_parts}
use Rattle.command_pools.proofs.lines.panel_line.Goals as goal

pub push_panel-requires : goal.push_panel-requires
push_panel-requires c = (quota_parts c.args.pool.now c.args.panel.now c.requires).below
