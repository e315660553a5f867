use Rattle.std.proofs.Common.{◌≡◌, ◌++◌, take}
use Rattle.std.specs.List.{enumerate_from, flat_map}
use Rattle.define_quotas.specs.LeastMisses.{quotas_of}
use Rattle.define_quotas.specs.AllQuotas.{quotas_of_value}
use Rattle.loosening_by_proof.proofs.quotas.push_category.Given as goal

-- the list has the quotas of the values read so far
abbrev pub invariant-loop-value : goal.invariant-loop-value
invariant-loop-value l =
    quotas_of l.weighted.items ≡ quotas_of l.fn.weighted.items ++ flat_map (λ (value, bounds). quotas_of_value l.place value) (take l.value (enumerate_from 0 l.category.values))
