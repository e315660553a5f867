-- The run's answer is certified, and is in the ranges of a bundle.
use Rattle.std.specs.Prelude.{Result, Ok, Err}
use Rattle.define_pools.specs.Pool.{IsPool, Pool}
use Rattle.define_pools.proofs.Greatest.{greatest_from_Certifies}
use Rattle.define_searches.specs.Classes.{are_alike, classes_of}
use Rattle.define_searches.proofs.AlikeClasses.{alike_makes}
use Rattle.define_runs.specs.Keeps.{AreRunLimits}
use Rattle.define_runs.specs.Run.{RunLimits}
use Rattle.laws_of_runs.proofs.Certified.{found_certified}
use Rattle.laws_of_runs.proofs.Ranges.{found_in_ranges}
use Rattle.laws_of_runs.proofs.NoPanels.{none_where_no_panel}
use Rattle.leximin_run.specs.declared.stops.Solved.{Solved}
use Rattle.leximin_run.specs.declared.stops.Solved.TheVariants.{Found, NoPanel}
use Rattle.leximin_run.specs.declared.stops.Stop.{Stop}
use Rattle.leximin_run.specs.Answers.{IsCertified, KeepsRanges, TellsEnding}

pub certified : (pool : Pool) (limits : RunLimits) → IsPool pool → AreRunLimits limits → (answer : Result Solved Stop) → TellsEnding (classes_of pool) limits answer → IsCertified pool answer
certified pool limits is_pool ranges (Ok (Found answer)) told =
    let certifies = found_certified pool (are_alike pool) (alike_makes pool) limits told.0 answer is_pool ranges told.1 in (certifies, greatest_from_Certifies pool answer.lottery answer.stages certifies)
certified pool limits is_pool ranges (Ok NoPanel) told = none_where_no_panel pool (are_alike pool) (alike_makes pool) limits told
certified pool limits is_pool ranges (Err stop) told = tt

pub keeps_ranges : (pool : Pool) (limits : RunLimits) → IsPool pool → AreRunLimits limits → (answer : Result Solved Stop) → TellsEnding (classes_of pool) limits answer → KeepsRanges pool answer
keeps_ranges pool limits is_pool ranges (Ok (Found answer)) told = found_in_ranges pool (are_alike pool) (alike_makes pool) limits told.0 answer is_pool ranges told.1
keeps_ranges pool limits is_pool ranges (Ok NoPanel) told = tt
keeps_ranges pool limits is_pool ranges (Err stop) told = tt
