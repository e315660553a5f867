-- The search for the cheapest team, front by front, with its visits. To enter a front is one visit; the empty front counts as one even if
-- it isn't live. From an entered front its children are tried, the greatest count first, and each child that is live at that moment is
-- entered. Builds on Costs, and on Classes, Compositions and Fronts of `define_searches`. `quota_loosen` searches this way.
use Rattle.std.specs.Prelude.{ℕ, ◌+◌, nat_lt, if◌then◌else◌, Bool, true, ◌&&◌, List, [], ◌∷◌, ◌++◌, fold, Option, Some, None}
use Rattle.define_searches.specs.Classes.{Class, Classes}
use Rattle.define_searches.specs.Compositions.{counts_of}
use Rattle.define_searches.specs.Fronts.{is_reachable}
use Rattle.define_quotas.specs.Costs.{cost, sure_cost, widened}

-- a front may lead to a team: the size is within reach, no household has two members taken, and at most 999 are taken of each value
abbrev pub leads_to_team : Classes → List ℕ → Bool
leads_to_team all front = is_reachable (widened all) front

-- true if nothing is kept yet, or the front's sure cost is less than the cost of the counts that are kept
abbrev pub may_cost_less : Classes → Option (List ℕ) → List ℕ → Bool
may_cost_less all None front = true
may_cost_less all (Some kept) front = nat_lt (sure_cost all front) (cost all kept)

-- a front is live: it may lead to a team that costs less than the one that is kept, or to any team if none is kept yet
abbrev pub is_live_below : Classes → Option (List ℕ) → List ℕ → Bool
is_live_below all kept front = leads_to_team all front && may_cost_less all kept front

-- how far a search is: its visits, and the counts that were kept last
pub record CostSearch : Type 0 where
  pub visits : ℕ
  pub kept : Option (List ℕ)

-- the search from a front that is entered, with the classes `later` still to come. If no class is still to come, the front is a team's
-- counts, and is kept
abbrev pub enter_cheapest : Classes → List Class → List ℕ → CostSearch → CostSearch
enter_cheapest all [] front so_far = record { visits = so_far.visits + 1; kept = Some front }
enter_cheapest all (class ∷ later) front so_far =
    fold (λ now c. if is_live_below all now.kept (front ++ c ∷ []) then enter_cheapest all later (front ++ c ∷ []) now else now)
    (record { visits = so_far.visits + 1; kept = so_far.kept }) (counts_of class)

-- the search for the cheapest team
abbrev pub cheapest_search : Classes → CostSearch
cheapest_search all =
    if is_live_below all None [] then enter_cheapest all all.classes [] (record { visits = 0; kept = None }) else record { visits = 1; kept = None }
