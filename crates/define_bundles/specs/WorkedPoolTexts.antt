-- A small pool with a household, for the worked texts here and in `laws_worked`.
use Rattle.std.specs.Prelude.{codes}
use Rattle.define_pools.specs.Pool.{Pool}
use Rattle.define_pools.specs.Building.{household_set}
use Rattle.define_pools.specs.WorkedExamples.{four}

-- two women and two men, with a and c in one household
abbrev pub housed : Pool
housed = household_set (household_set four 0 (codes "h")) 2 (codes "h")
