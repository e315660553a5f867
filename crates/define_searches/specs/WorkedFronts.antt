-- Small pools in which the first volunteer is not open, for the worked fronts.
use Rattle.define_pools.specs.declared.Standing.TheVariants.{Gone, Seated}
use Rattle.define_pools.specs.Building.{standing_set}
use Rattle.define_pools.specs.Pool.{Pool}
use Rattle.define_searches.specs.WorkedSearches.{either}

-- one seat for two volunteers: a, who has the value x and is gone, or b, who has y
abbrev pub first_gone : Pool
first_gone = standing_set either 0 Gone

-- one seat for two volunteers: a, who has the value x and is seated, or b, who has y
abbrev pub first_seated : Pool
first_seated = standing_set either 0 Seated
