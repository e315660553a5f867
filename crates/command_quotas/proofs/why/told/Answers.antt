use Rattle.std.proofs.Common.{subst}
use Rattle.command_meanings.specs.Why.{OfConflict, OfPanel}
use Rattle.quota_conflicts.specs.Answers.{IsExplanation}
use Rattle.command_quotas.proofs.why.told.Goals as goal

pub returns-in_ok-panel_text-in-Panel : goal.returns-in_ok-panel_text-in-Panel
returns-in_ok-panel_text-in-Panel c =
    OfPanel c.in-Panel.panel (subst (IsExplanation c.args.pool.now) c.in-Panel.is c.requires) c.in_ok-panel_text-in-Panel.ensures

pub returns-in_ok-conflict_text-in-Conflict : goal.returns-in_ok-conflict_text-in-Conflict
returns-in_ok-conflict_text-in-Conflict c =
    OfConflict c.in-Conflict.conflict (subst (IsExplanation c.args.pool.now) c.in-Conflict.is c.requires) c.in_ok-conflict_text-in-Conflict.ensures
