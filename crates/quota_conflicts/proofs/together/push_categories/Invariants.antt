use Rattle.std.proofs.Common.{◌≡◌, ◌++◌, take}
use Rattle.std.specs.List.{enumerate_from, flat_map}
use Rattle.define_quotas.specs.AllQuotas.{quotas_of_category}
use Rattle.quota_conflicts.proofs.together.push_categories.Given as goal

-- the list has the quotas of the categories read so far
abbrev pub invariant-loop-place : goal.invariant-loop-place
invariant-loop-place l = l.quotas.items ≡ l.fn.quotas.items ++ flat_map quotas_of_category (take l.place (enumerate_from 0 l.categories))
