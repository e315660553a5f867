-- A pool's least loosening, from the cheapest counts that a search keeps.
use Rattle.std.proofs.Common.{◌≡◌, ℕ, true, List, Option, Some, None, refl, sym, ap, ◌∙◌, subst}
use Rattle.std.specs.Prelude.{option_map}
use Rattle.define_quotas.specs.Costs.{cheapest_team, cost}
use Rattle.define_quotas.specs.CostSearch.{cheapest_search}
use Rattle.define_quotas.specs.Loosenings.{Loosening, least_loosening, loosening_for}
use Rattle.define_quotas.specs.Teams.{is_team, loosened, team_cost}
use Rattle.define_quotas.proofs.WidestBounds.{cost_same}
use Rattle.define_quotas.proofs.Least.{cheapest_is}
use Rattle.define_quotas.proofs.TeamSearch.{search_keeps_cheapest}
use Rattle.define_pools.specs.Pool.{Pool}
use Rattle.define_searches.specs.Classes.{Classes, are_alike, classes_of}
use Rattle.define_searches.specs.Compositions.{first_panel}
use Rattle.define_searches.proofs.AlikeClasses.{alike_makes}
use Rattle.define_searches.proofs.PoolClasses.{classes_in_order}
use Rattle.quota_loosen.specs.Steps.{IsKept}

pub first_is_team : (pool : Pool) (counts : List ℕ) → cheapest_team (classes_of pool) ≡ Some counts → is_team pool (first_panel (classes_of pool) counts) ≡ true
first_is_team pool counts e = (cheapest_is pool (are_alike pool) (alike_makes pool) counts e).is_one

pub cost_is : (pool : Pool) (counts : List ℕ) → cheapest_team (classes_of pool) ≡ Some counts → cost (classes_of pool) counts ≡ team_cost pool (first_panel (classes_of pool) counts)
cost_is pool counts e =
    let cheapest = cheapest_is pool (are_alike pool) (alike_makes pool) counts e in
    ap (cost (classes_of pool)) (sym cheapest.composition) ∙ cost_same pool (are_alike pool) (alike_makes pool) (first_panel (classes_of pool) counts) cheapest.is_one

pub kept_is : (pool : Pool) → (cheapest_search (classes_of pool)).kept ≡ cheapest_team (classes_of pool)
kept_is pool = search_keeps_cheapest (classes_of pool) (classes_in_order pool (are_alike pool))

-- if the search over a pool's classes keeps nothing, there is no least loosening
pub no_loosening : (pool : Pool) (all : Classes) → all ≡ classes_of pool → (cheapest_search all).kept ≡ None → least_loosening pool ≡ None
no_loosening pool all e n =
    ap (option_map (λ counts. loosening_for pool (first_panel (classes_of pool) counts))) (sym (kept_is pool) ∙ (ap (λ k. (cheapest_search k).kept) (sym e) ∙ n))

-- `cheapest_from` and `loosening_from`: if the search over a pool's classes keeps counts, these are the cheapest team's, and the least
-- loosening is that for the panel of the classes' first members with these counts
pub cheapest_from : (pool : Pool) (all : Classes) (counts : List ℕ) → all ≡ classes_of pool → (cheapest_search all).kept ≡ Some counts → cheapest_team (classes_of pool) ≡ Some counts
cheapest_from pool all counts e n = sym (kept_is pool) ∙ (ap (λ k. (cheapest_search k).kept) (sym e) ∙ n)

pub loosening_from : (pool : Pool) (all : Classes) (counts : List ℕ) → all ≡ classes_of pool → (cheapest_search all).kept ≡ Some counts →
    Some (loosening_for pool (first_panel (classes_of pool) counts)) ≡ least_loosening pool
loosening_from pool all counts e n = sym (ap (option_map (λ counts. loosening_for pool (first_panel (classes_of pool) counts))) (cheapest_from pool all counts e n))

-- a loosening with the cost, the pool and the panel of the cheapest team is the loosening for this team
pub loosening_is : (pool : Pool) (all : Classes) (counts : List ℕ) (total : ℕ) (made : Pool) (panel : List ℕ) → all ≡ classes_of pool → cheapest_team (classes_of pool) ≡ Some counts → total ≡ cost (classes_of pool) counts →
    panel ≡ first_panel all counts → made ≡ loosened pool panel → record { total = total; pool = made; panel = panel } ≡ loosening_for pool (first_panel (classes_of pool) counts)
loosening_is pool all counts total made panel e f g h k =
    let members : panel ≡ first_panel (classes_of pool) counts = h ∙ ap (λ c. first_panel c counts) e in
    ap (λ n. build n made panel) (g ∙ cost_is pool counts f) ∙ (ap (λ p. build (team_cost pool (first_panel (classes_of pool) counts)) p panel) (k ∙ ap (loosened pool) members)
    ∙ ap (build (team_cost pool (first_panel (classes_of pool) counts)) (loosened pool (first_panel (classes_of pool) counts))) members)
  where
    build : ℕ → Pool → List ℕ → Loosening
    build total pool panel = record { total = total; pool = pool; panel = panel }

-- if a search answers counts with their cost, these are the counts that it kept
pub kept_some : (all : Classes) (kept : Option (List ℕ)) (found : Option (List ℕ × ℕ)) (counts : List ℕ) (total : ℕ) → IsKept all kept found → found ≡ Some (counts, total) → kept ≡ Some counts
kept_some all kept None counts total h e = absurd cc
kept_some all kept (Some (others, least)) counts total h e = let pairs : (others, least) ≡ (counts, total) = cc in
    let same : others ≡ counts = ap (λ (pair : List ℕ × ℕ). pair.0) pairs in h.0 ∙ ap (λ (xs : List ℕ). Some xs) same

pub kept_none : (all : Classes) (kept : Option (List ℕ)) (found : Option (List ℕ × ℕ)) → IsKept all kept found → found ≡ None → kept ≡ None
kept_none all kept None h e = h
kept_none all kept (Some pair) h e = absurd cc
