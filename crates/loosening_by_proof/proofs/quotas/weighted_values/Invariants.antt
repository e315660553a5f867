use Rattle.std.proofs.Common.{◌≡◌, take}
use Rattle.std.specs.List.{enumerate_from, flat_map}
use Rattle.define_quotas.specs.LeastMisses.{quotas_of}
use Rattle.define_quotas.specs.AllQuotas.{quotas_of_category}
use Rattle.loosening_by_proof.proofs.quotas.weighted_values.Given as goal

-- the list has the quotas of the categories read so far
abbrev pub invariant-loop-place : goal.invariant-loop-place
invariant-loop-place l = quotas_of l.weighted.items ≡ flat_map quotas_of_category (take l.place (enumerate_from 0 l.pool.categories))
