use Rattle.std.proofs.Common.{◌≡◌}
use Rattle.define_quotas.specs.Teams.{loosened_category}
use Rattle.quota_loosen.proofs.Building.{with_values}
use Rattle.quota_loosen.proofs.bounds.add_category.Given as goal

-- the last category of `made` has the values so far
abbrev pub invariant-loop-value_place : goal.invariant-loop-value_place
invariant-loop-value_place l = l.made ≡ with_values l.fn.made (loosened_category l.volunteers l.team l.place l.category) l.value_place
