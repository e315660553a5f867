use Rattle.define_quotas.proofs.NoPanel.{no_panels, pool_has_none}
use Rattle.define_quotas.proofs.conflict_leaves_no_panel.Goals as goal

pub returns-clause-only : goal.returns-clause-only
returns-clause-only c pool quotas least of_pool misses some = no_panels pool quotas least of_pool misses some

pub returns-clause-whole : goal.returns-clause-whole
returns-clause-whole c pool quotas least of_pool misses some = pool_has_none pool quotas least of_pool misses some
