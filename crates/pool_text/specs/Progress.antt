-- The code's progress in the form of the definitions. The contracts of this crate's readers, and of those of bundles and proofs, cite it.
use Rattle.std.specs.Prelude.{ℕ, Option, Some, None}
use Rattle.define_pools.specs.Pool.{Pool}
use Rattle.define_bundles.specs.PoolReading as words
use Rattle.define_bundles.specs.declared.Passed.{Passed}
use Rattle.pool_text.specs.declared.progress.Progress.{Progress}
use Rattle.pool_text.specs.declared.progress.Progress.TheVariants.{Begun, Versioned, Inside, Ended}

abbrev pub seen : Progress → words.Progress
seen Begun = words.Begun
seen (Versioned version) = words.Versioned version
seen (Inside pool passed) = words.Inside pool passed
seen (Ended pool) = words.Ended pool

-- the least number that the next line can have, counted from 1
abbrev pub line_due : words.Progress → ℕ
line_due words.Begun = 1
line_due (words.Versioned version) = 2
line_due (words.Inside pool passed) = 3
line_due (words.Ended pool) = 4

-- the progress inside the pool if `passed` says how far its lines have come, or after the pool's end if `passed` is None
abbrev pub with_pool : Pool → Option Passed → words.Progress
with_pool pool (Some passed) = words.Inside pool passed
with_pool pool None = words.Ended pool
