use Rattle.std.proofs.Common.{sym, ◌∙◌}
use Rattle.check_reasons.proofs.HouseholdNumbers.{kept_numbers_below}
use Rattle.check_reasons.proofs.QuotaTests.{members_known, quota_panel_is}
use Rattle.check_reasons.proofs.quotas.is_quota_panel.Goals as goal

pub differ-requires-clause-known : goal.differ-requires-clause-known
differ-requires-clause-known c =
    members_known c.args.pool.now c.args.panel.now (sym c.is_of_size.ensures ∙ c.if-not-is_of_size.false) c.members-members.result.now c.args.households.now c.members-members.ensures.value c.requires

pub differ-requires-clause-within : goal.differ-requires-clause-within
differ-requires-clause-within c = kept_numbers_below c.args.pool.now.volunteers c.args.households.now c.requires

pub returns-then-meets : goal.returns-then-meets
returns-then-meets c =
    quota_panel_is c.args.pool.now c.args.panel.now (sym c.is_of_size.ensures ∙ c.if-not-is_of_size.false) c.members-members.result.now c.args.households.now c.volunteers-volunteers.result.now c.categories.result.now
    c.in_ok-stands.stands c.in_ok-meets.meets c.in_ok-differs.differs c.members-members.ensures.value c.requires c.volunteers-volunteers.ensures c.categories.ensures
    c.if-meets.true.0 c.if-meets.true.1 c.in_ok-stands.ensures c.in_ok-meets.ensures c.in_ok-differs.ensures
