-- The run whose workers share a bound, and the run whose workers share nothing, from what the code tells of both.
use Rattle.std.proofs.Common.{ℕ, true, false, Some, None, Result, Ok, Err, refl, sym, subst, arith}
use Rattle.define_pools.specs.Pool.{IsPool, Pool}
use Rattle.define_runs.specs.Keeps.{AreRunLimits, IsReached}
use Rattle.define_runs.specs.Run.{Ending, Ends, Limits, RunLimits, run_limits}
use Rattle.define_runs.proofs.Following.{comes_to_end}
use Rattle.define_searches.specs.Classes.{Classes, classes_of}
use Rattle.define_legs.specs.Legs.{EndsWithLegs}
use Rattle.define_runs.specs.Sharing.{EndsUnbounded, MayEnd, with_pricing}
use Rattle.define_runs.proofs.Shared.{sharing_keeps, spends_there}
use Rattle.define_legs.proofs.Endings.{legs_end}
use Rattle.leximin_run.specs.declared.stops.Outcome.{Outcome}
use Rattle.leximin_run.specs.declared.stops.Outcome.TheVariants as outcome
use Rattle.leximin_run.specs.declared.stops.Solved.{Solved}
use Rattle.leximin_run.specs.declared.stops.Solved.TheVariants.{Found, NoPanel}
use Rattle.leximin_run.specs.declared.stops.Stop.{Stop}
use Rattle.leximin_run.specs.declared.stops.Stop.TheVariants.{TooWide, TotalPasses, PivotsSpent, NodesSpent, OutOfMemory}
use Rattle.leximin_run.specs.Advancing.{HoldsFrom}
use Rattle.leximin_run.specs.Answers.{EndsFrom, IsCertified, KeepsEnding, KeepsRanges, Tells, TellsOutcome, TellsRun, TellsSharing, solved_of, stood}
use Rattle.leximin_run.proofs.Certified.{certified, keeps_ranges}

-- an answer that is an ending of which E holds is one of which F holds, if F follows from E
pub tells_also : (E F : Ending → Type 0) → ((ending : Ending) → E ending → F ending) → (result : Result Solved Stop) → Tells E result → Tells F result
tells_also E F follows (Ok (Found answer)) told = (told.0, follows (Ending.Found told.0 answer) told.1)
tells_also E F follows (Ok NoPanel) told = follows Ending.NoPanel told
tells_also E F follows (Err (TooWide place pass)) told = follows (Ending.TooWide (stood place) pass) told
tells_also E F follows (Err (TotalPasses place at total den)) (table, pass, is, numbers, ends) = (table, pass, is, numbers, follows (Ending.TotalPasses table pass) ends)
tells_also E F follows (Err (PivotsSpent place)) (table, is, ends) = (table, is, follows (Ending.PivotsSpent table) ends)
tells_also E F follows (Err (NodesSpent place)) told = follows (Ending.NodesSpent (stood place)) told
tells_also E F follows (Err OutOfMemory) told = tt

-- ---- workers that share nothing

module _ (all : Classes) (limits : Limits) where
  -- what holds as far as the pricings were answered holds under the limits themselves
  own : (P : RunLimits → Type 0) → HoldsFrom false (run_limits limits) P → P (run_limits limits)
  own P h = h.holds limits.nodes (h.own refl)

  ends_apart : (ending : Ending) → EndsFrom false all (run_limits limits) ending → Ends all (run_limits limits) ending
  ends_apart Ending.NoPanel h = own (λ free. Ends all free Ending.NoPanel) h
  ends_apart (Ending.Found last answer) h = own (λ free. Ends all free (Ending.Found last answer)) h
  ends_apart (Ending.TooWide place pass) h = own (λ free. Ends all free (Ending.TooWide place pass)) h
  ends_apart (Ending.TotalPasses table pass) h = own (λ free. Ends all free (Ending.TotalPasses table pass)) h
  ends_apart (Ending.PivotsSpent table) h = own (λ free. Ends all free (Ending.PivotsSpent table)) h
  ends_apart (Ending.NodesSpent None) h = own (λ free. Ends all free (Ending.NodesSpent None)) h
  ends_apart (Ending.NodesSpent (Some table)) (reached, spends) =
      comes_to_end all (run_limits limits) table (Ending.NodesSpent (Some table)) (own (λ free. IsReached all free table) reached) (spends_there all (run_limits limits) table spends)

  pub tells_apart : (result : Result Outcome Stop) → TellsRun false all (run_limits limits) result → TellsOutcome all (run_limits limits) result
  tells_apart (Ok (outcome.Found answer sizes legs)) told = (told.0, told.1, own (λ free. EndsWithLegs all free (Ending.Found told.0 answer) legs.items) told.2)
  tells_apart (Ok outcome.NoPanel) told = ends_apart Ending.NoPanel told
  tells_apart (Err stop) told = tells_also (EndsFrom false all (run_limits limits)) (Ends all (run_limits limits)) ends_apart (Err stop) told

-- ---- workers that share a bound

module _ (all : Classes) (limits : RunLimits) where
  unbounded : (ending : Ending) → HoldsFrom true limits (λ free. Ends all free ending) → EndsUnbounded all limits ending
  unbounded ending h = record { least = h.least; holds = h.holds }

  may_end : (ending : Ending) → EndsFrom true all limits ending → MayEnd all limits ending
  may_end Ending.NoPanel h = unbounded Ending.NoPanel h
  may_end (Ending.Found last answer) h = unbounded (Ending.Found last answer) h
  may_end (Ending.TooWide place pass) h = unbounded (Ending.TooWide place pass) h
  may_end (Ending.TotalPasses table pass) h = unbounded (Ending.TotalPasses table pass) h
  may_end (Ending.PivotsSpent table) h = unbounded (Ending.PivotsSpent table) h
  may_end (Ending.NodesSpent None) h = unbounded (Ending.NodesSpent None) h
  may_end (Ending.NodesSpent (Some table)) (reached, spends) = (record { least = reached.least; holds = reached.holds }, spends)

  pub tells_sharing : (result : Result Outcome Stop) → TellsRun true all limits result → TellsSharing all limits (solved_of result)
  tells_sharing (Ok (outcome.Found answer sizes legs)) told =
      (told.0, record { least = told.2.least; holds = λ pricing l. legs_end all (with_pricing limits pricing) (Ending.Found told.0 answer) legs.items (told.2.holds pricing l) })
  tells_sharing (Ok outcome.NoPanel) told = may_end Ending.NoPanel told
  tells_sharing (Err stop) told = tells_also (EndsFrom true all limits) (MayEnd all limits) may_end (Err stop) told

  pub keeps_ending : (result : Result Solved Stop) → TellsSharing all limits result → KeepsEnding all limits result
  keeps_ending result told = λ ending ends kept.
      tells_also (MayEnd all limits) (Ends all limits) (λ shared may. subst (Ends all limits) (sym (sharing_keeps all limits ending shared ends kept may)) ends) result told

-- ---- what is found

module _ (pool : Pool) (limits : RunLimits) (is_pool : IsPool pool) (ranges : AreRunLimits limits) where
  ranges_with : (pricing : ℕ) → AreRunLimits (with_pricing limits pricing)
  ranges_with pricing = record { some_bits = ranges.some_bits; few_bits = ranges.few_bits; few_pivots = ranges.few_pivots }

  pub certified_sharing : (result : Result Solved Stop) → TellsSharing (classes_of pool) limits result → IsCertified pool result
  certified_sharing (Ok (Found answer)) told =
      certified pool (with_pricing limits told.1.least) is_pool (ranges_with told.1.least) (Ok (Found answer)) (told.0, told.1.holds told.1.least (omega arith))
  certified_sharing (Ok NoPanel) told = certified pool (with_pricing limits told.least) is_pool (ranges_with told.least) (Ok NoPanel) (told.holds told.least (omega arith))
  certified_sharing (Err stop) told = tt

  pub ranges_sharing : (result : Result Solved Stop) → TellsSharing (classes_of pool) limits result → KeepsRanges pool result
  ranges_sharing (Ok (Found answer)) told =
      keeps_ranges pool (with_pricing limits told.1.least) is_pool (ranges_with told.1.least) (Ok (Found answer)) (told.0, told.1.holds told.1.least (omega arith))
  ranges_sharing (Ok NoPanel) told = tt
  ranges_sharing (Err stop) told = tt
