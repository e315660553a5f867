-- What the first table requires, and how the run begins.
use Rattle.std.proofs.Common.{◌≡◌, ℕ, ◌<◌, ◌≤◌, Bool, cond, List, [], Some, None, Ok, Err, ap, ◌∙◌}
use Rattle.std.proofs.lemmas.Bool.{le-ltb, lt-ltb}
use Rattle.define_rows.specs.declared.Pass.{Pass}
use Rattle.define_rows.specs.Pivot.{start}
use Rattle.define_rows.specs.Table.{Table}
use Rattle.define_searches.specs.Classes.{Classes, KeepsLimits}
use Rattle.define_searches.specs.Compositions.{compositions, first_composition}
use Rattle.define_searches.specs.Fronts.{sizes_of}
use Rattle.define_searches.specs.Visits.{first_search}
use Rattle.define_runs.specs.Keeps.{AreRunLimits, IsReached}
use Rattle.define_runs.specs.Run.{Ends, RunLimits, Ended, NoPanel, NodesSpent, TooWide, closed_rows, opened, opening, started}
use Rattle.define_runs.proofs.Following.{ends_at_once, opens_at}
use Rattle.define_searches.proofs.Contained.{first_there}
use Rattle.define_runs.proofs.Kept.{MayBegin, first_table_is, may_begin, reached_kept}
use Rattle.define_runs.specs.Sharing.{with_pricing}
use Rattle.leximin_run.specs.Advancing.{HoldsFrom, Reaches}
use Rattle.leximin_run.specs.Answers.{EndsFrom}
use Rattle.leximin_run.specs.Tracing.{ReachesWithLegs}
use Rattle.leximin_run.proofs.Budgets.{from_none}
use Rattle.leximin_run.proofs.LegSteps.{begins_with_legs}

-- If the opening search stays within its budget, the opening goes on with the composition that the search finds.
opens : (all : Classes) (limits : RunLimits) → (first_search all).visits ≤ limits.opening → opening all limits ≡ opened all limits (first_composition all)
unfolding opening
opens all limits l = ap (λ b. cond b (Ended (NodesSpent None)) (opened all limits (first_composition all))) (le-ltb limits.opening (first_search all).visits l)

spent_at_once : (all : Classes) (limits : RunLimits) → limits.opening < (first_search all).visits → Ends all limits (NodesSpent None)
unfolding opening
spent_at_once all limits l =
    ends_at_once all limits (NodesSpent None) (ap (λ b. cond b (Ended (NodesSpent None)) (opened all limits (first_composition all))) (lt-ltb limits.opening (first_search all).visits l))

no_panel_at_once : (all : Classes) (limits : RunLimits) → (first_search all).visits ≤ limits.opening → first_composition all ≡ None → Ends all limits NoPanel
no_panel_at_once all limits l none = ends_at_once all limits NoPanel (opens all limits l ∙ ap (opened all limits) none)

module _ (all : Classes) (limits : RunLimits) (first : List ℕ) (within : (first_search all).visits ≤ limits.opening) (found : first_composition all ≡ Some first) where
  starts : opening all limits ≡ started (start (sizes_of all) first limits.bits)
  starts = opens all limits within ∙ ap (opened all limits) found

  wide_at_once : (pass : Pass) → start (sizes_of all) first limits.bits ≡ Err pass → Ends all limits (TooWide None pass)
  wide_at_once pass e = ends_at_once all limits (TooWide None pass) (starts ∙ ap started e)

  pub may_start : KeepsLimits all → MayBegin all first
  may_start limited = may_begin all limited first (first_there (compositions all) first found)

pub begun : (share : Bool) (all : Classes) (limits : RunLimits) (first : List ℕ) → (first_search all).visits ≤ limits.opening → first_composition all ≡ Some first →
    KeepsLimits all → AreRunLimits limits → (table : Table) → start (sizes_of all) first limits.bits ≡ Ok table → Reaches share all limits table []
begun share all limits first within found limited ranges table e =
    let reached = opens_at all limits table (starts all limits first within found ∙ ap started e) in
    record {
      reached = from_none share limits (λ free. IsReached all free table) (λ pricing. opens_at all (with_pricing limits pricing) table (starts all (with_pricing limits pricing) first within found ∙ ap started e));
      stands = record { limited = limited; ranges = ranges; keeps = reached_kept all limits limited ranges table reached; closed_are = ap closed_rows (first_table_is (sizes_of all) first limits.bits table e) };
    }

pub begun_with_legs : (share : Bool) (all : Classes) (limits : RunLimits) (first : List ℕ) → (first_search all).visits ≤ limits.opening → first_composition all ≡ Some first →
    (table : Table) → start (sizes_of all) first limits.bits ≡ Ok table → HoldsFrom share limits (λ free. ReachesWithLegs all free table [])
begun_with_legs share all limits first within found table e =
    from_none share limits (λ free. ReachesWithLegs all free table []) (λ pricing. begins_with_legs all (with_pricing limits pricing) table (starts all (with_pricing limits pricing) first within found ∙ ap started e))

-- ---- a run that ends at its opening, with each budget of pricing

pub spent_first : (share : Bool) (all : Classes) (limits : RunLimits) → limits.opening < (first_search all).visits → EndsFrom share all limits (NodesSpent None)
spent_first share all limits l = from_none share limits (λ free. Ends all free (NodesSpent None)) (λ pricing. spent_at_once all (with_pricing limits pricing) l)

pub no_panel_first : (share : Bool) (all : Classes) (limits : RunLimits) → (first_search all).visits ≤ limits.opening → first_composition all ≡ None → EndsFrom share all limits NoPanel
no_panel_first share all limits l none = from_none share limits (λ free. Ends all free NoPanel) (λ pricing. no_panel_at_once all (with_pricing limits pricing) l none)

pub wide_first : (share : Bool) (all : Classes) (limits : RunLimits) (first : List ℕ) → (first_search all).visits ≤ limits.opening → first_composition all ≡ Some first →
    (pass : Pass) → start (sizes_of all) first limits.bits ≡ Err pass → EndsFrom share all limits (TooWide None pass)
wide_first share all limits first within found pass e =
    from_none share limits (λ free. Ends all free (TooWide None pass)) (λ pricing. wide_at_once all (with_pricing limits pricing) first within found pass e)
