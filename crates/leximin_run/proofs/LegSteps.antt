-- The legs of a run after a step, at its ending, and at its opening.
use Rattle.std.proofs.Common.{◌≡◌, ℕ, zero, suc, ◌-◌, ◌^◌, ◌<◌, ◌≤◌, List, [], ◌∷◌, length, get_or, set, Result, Ok, Err, sym, ap, ◌∙◌, subst, arith}
use Rattle.std.specs.Prelude.{sum_by, IfErr}
use Rattle.std.proofs.lemmas.List.{length-map}
use Rattle.define_legs.specs.declared.Leg.{Leg}
use Rattle.define_legs.specs.Legs.{EndsWithLegs, Traced, legs_after, legs_to, longer, onward, traced, with_pivot}
use Rattle.define_rows.specs.Table.{Table}
use Rattle.define_runs.specs.Keeps.{AreRunLimits}
use Rattle.define_runs.specs.Run.{Ended, Ending, GoOn, Next, RunLimits, opening, step}
use Rattle.define_searches.specs.Classes.{Classes, KeepsLimits}
use Rattle.define_runs.proofs.Kept.{reached_kept}
use Rattle.laws_of_runs.proofs.FoundEnds.{ends_found}
use Rattle.define_legs.proofs.Endings.{each_has_legs, legs_end, spends_below}
use Rattle.define_legs.proofs.Traces.{all_pivots, few_pivots}
use Rattle.leximin_run.specs.declared.stops.Outcome.{Outcome}
use Rattle.leximin_run.specs.declared.stops.Outcome.TheVariants as outcome
use Rattle.leximin_run.specs.declared.stops.Stop.{Stop}
use Rattle.leximin_run.specs.declared.stops.Stop.TheVariants.{TooWide, TotalPasses, PivotsSpent, NodesSpent, OutOfMemory}
use Rattle.leximin_run.specs.Answers.{AreShortLegs, HasShortLegs, HasSomeClass, SpendsBelowLegs, TellsEnding, TellsOutcome, solved_of, traced_of}
use Rattle.leximin_run.specs.Tracing.{ReachesWithLegs}

-- one more pivot in the last leg, as the code sets it
pub last_longer : (legs : List Leg) (k : ℕ) (leg : Leg) → suc k ≡ length legs → get_or legs k leg ≡ leg → set legs k (longer leg) ≡ with_pivot legs
last_longer [] k leg last here = absurd (omega (arith, last))
last_longer (x ∷ []) zero leg last here = ap (λ it. longer it ∷ []) (sym here)
last_longer (x ∷ []) (suc k) leg last here = absurd (omega (arith, last))
last_longer (x ∷ y ∷ legs) zero leg last here = absurd (omega (arith, last))
last_longer (x ∷ y ∷ legs) (suc k) leg last here = ap (λ more. x ∷ more) (last_longer (y ∷ legs) k leg (omega (arith, last)) here)

module _ (all : Classes) (limits : RunLimits) where
  pub begins_with_legs : (table : Table) → opening all limits ≡ GoOn table → ReachesWithLegs all limits table []
  begins_with_legs table e = record { steps = 0; there = ap (λ next. record { next = next; legs = [] }) e }

  after_step : (table : Table) (legs : List Leg) (reaches : ReachesWithLegs all limits table legs) (next : Next) → step all limits table ≡ next →
      traced all limits (suc reaches.steps) ≡ record { next = next; legs = legs_to legs table next }
  after_step table legs reaches next e = ap (λ (t : Traced). onward all limits t.next t.legs) reaches.there ∙ ap (λ next. record { next = next; legs = legs_to legs table next }) e

  pub goes_on_with_legs : (table made : Table) (legs : List Leg) → ReachesWithLegs all limits table legs → step all limits table ≡ GoOn made → ReachesWithLegs all limits made (legs_after legs table made)
  goes_on_with_legs table made legs reaches e = record { steps = suc reaches.steps; there = after_step table legs reaches (GoOn made) e }

  pub ends_with_legs : (table : Table) (legs : List Leg) (ending : Ending) → ReachesWithLegs all limits table legs → step all limits table ≡ Ended ending → EndsWithLegs all limits ending legs
  ends_with_legs table legs ending reaches e = record { steps = suc reaches.steps; there = after_step table legs reaches (Ended ending) e }

  -- the pivots of the legs are few
  pub few_in_legs : (table : Table) (legs : List Leg) → KeepsLimits all → AreRunLimits limits → table.pivots ≤ limits.pivots → ReachesWithLegs all limits table legs → sum_by (λ leg. leg.pivots) legs < 2 ^ 64 - 1
  few_in_legs table legs limited ranges few reaches =
      let same : sum_by (λ leg. leg.pivots) legs ≡ table.pivots =
      sym (ap (λ (t : Traced). sum_by (λ leg. leg.pivots) t.legs) reaches.there) ∙ all_pivots all limits reaches.steps table limited ranges (ap (λ (t : Traced). t.next) reaches.there) in
      omega (arith, same, few, ranges.few_pivots)

  pub short_legs : (ending : Ending) (legs : List Leg) → KeepsLimits all → AreRunLimits limits → EndsWithLegs all limits ending legs → AreShortLegs all legs
  short_legs ending legs limited ranges ends = subst (AreShortLegs all) (ap (λ (t : Traced). t.legs) ends.there) (few_pivots all limits ends.steps limited ranges)

  pub has_short_legs : KeepsLimits all → AreRunLimits limits → (result : Result Outcome Stop) → TellsOutcome all limits result → HasShortLegs all (traced_of result)
  has_short_legs limited ranges (Ok (outcome.Found answer sizes legs)) told = short_legs (Ending.Found told.0 answer) legs.items limited ranges told.2
  has_short_legs limited ranges (Ok outcome.NoPanel) told = tt
  has_short_legs limited ranges (Err stop) told = tt

  pub has_some_class : KeepsLimits all → AreRunLimits limits → (result : Result Outcome Stop) → TellsOutcome all limits result → HasSomeClass all (traced_of result)
  has_some_class limited ranges (Ok (outcome.Found answer sizes legs)) told =
      let last = told.0 in
      let keeps = reached_kept all limits limited ranges last (ends_found all limits last answer (legs_end all limits (Ending.Found last answer) legs.items told.2)).reached in
      omega (arith, keeps.in_order.some_class, ap length keeps.sizes, length-map all.classes (λ class. length class.members))
  has_some_class limited ranges (Ok outcome.NoPanel) told = tt
  has_some_class limited ranges (Err stop) told = tt

  -- a spent budget of pivots is below the bound of the run's legs
  below_legs : KeepsLimits all → AreRunLimits limits → (stop : Stop) → TellsEnding all limits (Err stop) → SpendsBelowLegs all limits stop
  below_legs limited ranges (TooWide place pass) told = tt
  below_legs limited ranges (TotalPasses place at total den) told = tt
  below_legs limited ranges (PivotsSpent place) (table, is, ends) =
      let legs = each_has_legs all limits (Ending.PivotsSpent table) ends in (table, legs.0, is, legs.1, spends_below all limits table legs.0 limited ranges legs.1)
  below_legs limited ranges (NodesSpent place) told = tt
  below_legs limited ranges OutOfMemory told = tt

  pub spends_below_legs : KeepsLimits all → AreRunLimits limits → (result : Result Outcome Stop) → TellsOutcome all limits result → IfErr result (SpendsBelowLegs all limits)
  spends_below_legs limited ranges (Ok solved) told = tt
  spends_below_legs limited ranges (Err stop) told = below_legs limited ranges stop told

  -- if an outcome is how the run ends, so is the answer alone
  pub tells_solved : (result : Result Outcome Stop) → TellsOutcome all limits result → TellsEnding all limits (solved_of result)
  tells_solved (Ok (outcome.Found answer sizes legs)) told = (told.0, legs_end all limits (Ending.Found told.0 answer) legs.items told.2)
  tells_solved (Ok outcome.NoPanel) told = told
  tells_solved (Err stop) told = told
