-- A lower bound on what every selection misses. Each quota has a weight. `asked` is what the weighted quotas ask for, `given` the most that
-- a selection can give. Each selection's weighted misses sum to at least `asked` less `given`. All numbers are whole and at least 0. Builds
-- on Quotas. `quota_conflicts`, `define_quotas` and `loosening_by_proof` use it.
use Rattle.std.specs.Prelude.{ℕ, ◌+◌, ◌-◌, ◌*◌, if◌then◌else◌, Bool, true, false, ◌&&◌, List, map, sum_by}
use Rattle.std.specs.List.{enumerate_from}
use Rattle.define_pools.specs.declared.Standing.{Standing}
use Rattle.define_pools.specs.declared.Standing.TheVariants.{Open, Seated, Gone}
use Rattle.define_pools.specs.Pool.{Pool}
use Rattle.define_quotas.specs.declared.Quota.{Quota}
use Rattle.define_quotas.specs.declared.Side.{Side}
use Rattle.define_quotas.specs.declared.Side.TheVariants.{AtLeast, AtMost}
use Rattle.define_quotas.specs.declared.WeightedQuota.{WeightedQuota}
use Rattle.define_quotas.specs.Quotas.{bound, is_counted, miss}

-- the quotas, without their weights
abbrev pub quotas_of : List WeightedQuota → List Quota
quotas_of weighted = map (λ it. it.quota) weighted

abbrev pub is_side : Side → Side → Bool
is_side AtLeast AtLeast = true
is_side AtLeast AtMost = false
is_side AtMost AtLeast = false
is_side AtMost AtMost = true

-- the bound of a quota of this side, times its weight; 0 for one of the other side
abbrev pub weighed_bound : Pool → Side → WeightedQuota → ℕ
weighed_bound pool side it = if is_side side it.quota.side then it.weight * bound pool it.quota else 0

-- the sum of the bounds of all quotas of a side, each times its weight
abbrev pub weighed_bounds : Pool → Side → List WeightedQuota → ℕ
weighed_bounds pool side weighted = sum_by (weighed_bound pool side) weighted

-- the weight of a quota if it is of this side and counts volunteer `i`, else 0
abbrev pub weight_for : Pool → Side → ℕ → WeightedQuota → ℕ
weight_for pool side i it = if is_side side it.quota.side && is_counted pool it.quota.counted i then it.weight else 0

-- the sum of the weights of the quotas of a side that count volunteer `i`
abbrev pub weights_for : Pool → Side → List WeightedQuota → ℕ → ℕ
weights_for pool side weighted i = sum_by (weight_for pool side i) weighted

-- what a volunteer takes from every selection: `most` if the volunteer is seated, else 0. `most` is the sum of the weights of the quotas
-- with greatest numbers that count this volunteer
abbrev pub taken_by_standing : Standing → ℕ → ℕ
taken_by_standing Open most = 0
taken_by_standing Seated most = most
taken_by_standing Gone most = 0

-- the most that a volunteer gives to a selection. `least` and `most` are the sums of the weights of the quotas with least and with greatest
-- numbers that count this volunteer. For someone who is open it is `least` minus `most`, or 0 if `most` is greater, since a selection may
-- leave this volunteer out. For someone who is seated it is `least`
abbrev pub given_by : Standing → ℕ → ℕ → ℕ
given_by Open least most = least - most
given_by Seated least most = least
given_by Gone least most = 0

-- what is asked of a selection that keeps the standings `all`: the least numbers, each times its quota's weight, and what the seated take
abbrev pub asked : Pool → List WeightedQuota → List Standing → ℕ
asked pool weighted all =
    weighed_bounds pool AtLeast weighted
    + sum_by (λ (i, standing). taken_by_standing standing (weights_for pool AtMost weighted i)) (enumerate_from 0 all)

-- the most that a selection that keeps the standings `all` can give: the sum of the bounds of the quotas with greatest numbers, each times
-- its quota's weight, and of the most that each volunteer gives
abbrev pub given : Pool → List WeightedQuota → List Standing → ℕ
given pool weighted all =
    weighed_bounds pool AtMost weighted
    + sum_by (λ (i, standing). given_by standing (weights_for pool AtLeast weighted i) (weights_for pool AtMost weighted i)) (enumerate_from 0 all)

-- what a selection misses, each quota's miss times its weight
abbrev pub weighed_misses : Pool → List ℕ → List WeightedQuota → ℕ
weighed_misses pool selection weighted = sum_by (λ it. it.weight * miss pool selection it.quota) weighted
