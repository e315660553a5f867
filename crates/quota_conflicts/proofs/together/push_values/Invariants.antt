use Rattle.std.proofs.Common.{◌≡◌, ◌++◌, take}
use Rattle.std.specs.List.{enumerate_from, flat_map}
use Rattle.define_quotas.specs.AllQuotas.{quotas_of_value}
use Rattle.quota_conflicts.proofs.together.push_values.Given as goal

-- the list has the quotas of the values read so far
abbrev pub invariant-loop-value : goal.invariant-loop-value
invariant-loop-value l =
    l.quotas.items ≡ l.fn.quotas.items ++ flat_map (λ (value, bounds). quotas_of_value l.place value) (take l.value (enumerate_from 0 l.category.values))
