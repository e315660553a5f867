-- A run that has ended stays ended, so it has one ending. From a table that a run reaches, the run goes on by `step`.
use Rattle.std.proofs.Common.{◌≡◌, ℕ, zero, suc, refl, ap, ◌∙◌}
use Rattle.define_searches.specs.Classes.{Classes}
use Rattle.define_rows.specs.Table.{Table}
use Rattle.define_runs.specs.Run.{RunLimits, Ending, Ends, Next, GoOn, Ended, step, follow, opening}
use Rattle.define_runs.specs.Keeps.{IsReached}

pub stays_ended : (all : Classes) (limits : RunLimits) (ending : Ending) (n : ℕ) → follow all limits (Ended ending) n ≡ Ended ending
stays_ended all limits ending zero = refl
stays_ended all limits ending (suc n) = refl

pub same_ending : (all : Classes) (limits : RunLimits) (next : Next) (n m : ℕ) (first second : Ending) →
    follow all limits next n ≡ Ended first → follow all limits next m ≡ Ended second → first ≡ second
same_ending all limits (Ended ending) n m first second a b =
    let left = stays_ended all limits ending n in let right = stays_ended all limits ending m in cc
same_ending all limits (GoOn table) zero m first second a b = cc
same_ending all limits (GoOn table) (suc n) zero first second a b = cc
same_ending all limits (GoOn table) (suc n) (suc m) first second a b = same_ending all limits (step all limits table) n m first second a b

-- ---- one more step

follow_more : (all : Classes) (limits : RunLimits) (next : Next) (n : ℕ) (table : Table) → follow all limits next n ≡ GoOn table → follow all limits next (suc n) ≡ step all limits table
follow_more all limits (GoOn first) zero table e = let same : first ≡ table = cc in ap (step all limits) same
follow_more all limits (Ended ending) zero table e = absurd cc
follow_more all limits (GoOn first) (suc n) table e = follow_more all limits (step all limits first) n table e
follow_more all limits (Ended ending) (suc n) table e = absurd cc

pub opens_at : (all : Classes) (limits : RunLimits) (table : Table) → opening all limits ≡ GoOn table → IsReached all limits table
opens_at all limits table e = record { steps = 0; there = e }

pub ends_at_once : (all : Classes) (limits : RunLimits) (ending : Ending) → opening all limits ≡ Ended ending → Ends all limits ending
ends_at_once all limits ending e = record { steps = 0; there = e }

pub goes_on : (all : Classes) (limits : RunLimits) (table next : Table) → IsReached all limits table → step all limits table ≡ GoOn next → IsReached all limits next
goes_on all limits table next reached e = record { steps = suc reached.steps; there = follow_more all limits (opening all limits) reached.steps table reached.there ∙ e }

pub comes_to_end : (all : Classes) (limits : RunLimits) (table : Table) (ending : Ending) → IsReached all limits table → step all limits table ≡ Ended ending → Ends all limits ending
comes_to_end all limits table ending reached e = record { steps = suc reached.steps; there = follow_more all limits (opening all limits) reached.steps table reached.there ∙ e }
