-- A small conflict on which the definitions compute: two seats for a woman and a man of one household.
use Rattle.std.specs.Prelude.{ℕ, List, [], ◌∷◌, ◌++◌, true, codes, Some}
use Rattle.define_quotas.specs.declared.Counted.TheVariants.{Everybody, OfHousehold}
use Rattle.define_quotas.specs.declared.Side.TheVariants.{AtLeast, AtMost}
use Rattle.define_quotas.specs.declared.WeightedQuota.{WeightedQuota}
use Rattle.define_quotas.specs.LeastMisses.{quotas_of}
use Rattle.define_quotas.specs.Quotas.{Conflict}

-- two quotas with the weight 1: at least the size, and at most one member of the household
abbrev pub couple_weighted : List WeightedQuota
couple_weighted =
    record { quota = record { counted = Everybody; side = AtLeast }; weight = 1 }
    ∷ record { quota = record { counted = OfHousehold 0; side = AtMost }; weight = 1 } ∷ []

abbrev pub couple_conflict : Conflict
couple_conflict = record { quotas = quotas_of couple_weighted; least_miss = Some 1; is_each_needed = true }

abbrev pub couple_text : List ℕ
couple_text =
    codes "the size: at least 2; 2 available, 0 of them seated" ++ 10 ∷ codes "household h: at most 1; 2 available, 0 of them seated" ++ 10
    ∷ codes "these together miss by at least 1" ++ 10 ∷ codes "each is needed: without it the others can be met" ++ 10 ∷ []
