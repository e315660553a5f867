-- The counts of teams are the compositions of the pool with the widest bounds, so the laws on compositions hold of them.
use Rattle.std.proofs.Common.{◌≡◌, ℕ, ◌+◌, ◌<◌, Bool, true, ◌&&◌, eqb, ltb, List, [], ◌∷◌, map, length, slice_index, sum_by, refl, sym, ap, ◌∙◌, subst}
use Rattle.std.specs.Prelude.{Contains}
use Rattle.std.specs.List.{enumerate_from, AllByRecursion}
use Rattle.std.proofs.lemmas.Bool.{and_parts, and_from, ltb-true}
use Rattle.define_pools.proofs.Each.{each_from_list_all, each_map}
use Rattle.define_pools.proofs.Sums.{sum_by-is-total, total}
use Rattle.define_pools.specs.Pool.{BoundedValue, Category, Pool, volunteer, is_of_size, is_quota_panel, keeps_households, keeps_standings, members_with, meets_quotas}
use Rattle.define_searches.specs.declared.Bounds.{Bounds}
use Rattle.define_searches.specs.Classes.{Classes, MakesClasses, bounds_of, class_by, classes_by, leaders}
use Rattle.define_searches.specs.Compositions.{composition_of, compositions, first_panel, has_value, taken_of}
use Rattle.define_searches.proofs.Contained.{each_itself}
use Rattle.define_searches.proofs.LeaderForm as by_leader
use Rattle.define_searches.proofs.PanelCompositions.{of_compositions, passing}
use Rattle.define_searches.proofs.PoolClasses.{composition_of_same, compositions_same, first_panels_compose, first_panels_fit, taken_same}
use Rattle.define_quotas.specs.Costs.{cost, team_counts}
use Rattle.define_quotas.specs.Teams.{is_team, missed_by, team_cost, widest, widest_category, widest_value}

pub widest_makes : (pool : Pool) (alike : ℕ → ℕ → Bool) → MakesClasses pool alike → MakesClasses (widest pool) alike
widest_makes pool alike makes = record { same = makes.same; values = makes.values; standing = makes.standing; alone = makes.alone }

-- the properties of a quota panel
pub record Panel (pool : Pool) (panel : List ℕ) : Type 0 where
  pub of_size : is_of_size pool panel ≡ true
  pub standings : keeps_standings pool.volunteers panel ≡ true
  pub quotas : meets_quotas pool.categories pool.volunteers panel ≡ true
  pub households : keeps_households pool.volunteers panel ≡ true

pub panel_parts : (pool : Pool) (panel : List ℕ) → is_quota_panel pool panel ≡ true → Panel pool panel
panel_parts pool panel h =
    let last = and_parts (is_of_size pool panel && keeps_standings pool.volunteers panel && meets_quotas pool.categories pool.volunteers panel) (keeps_households pool.volunteers panel) h in
    let both = and_parts (is_of_size pool panel && keeps_standings pool.volunteers panel) (meets_quotas pool.categories pool.volunteers panel) last.0 in
    let parts = and_parts (is_of_size pool panel) (keeps_standings pool.volunteers panel) both.0 in
    record { of_size = parts.0; standings = parts.1; quotas = both.1; households = last.1 }

pub team_parts : (pool : Pool) (team : List ℕ) → is_team pool team ≡ true → Panel (widest pool) team
team_parts pool team h = panel_parts (widest pool) team h

-- a team that meets the quotas of some categories is a quota panel of the pool with these categories
pub panel_of_team : (pool : Pool) (categories : List Category) (team : List ℕ) → is_team pool team ≡ true → meets_quotas categories pool.volunteers team ≡ true →
    is_quota_panel (record pool { categories = categories }) team ≡ true
panel_of_team pool categories team h met =
    let parts = team_parts pool team h in
    and_from (is_of_size pool team && keeps_standings pool.volunteers team && meets_quotas categories pool.volunteers team) (keeps_households pool.volunteers team)
    (and_from (is_of_size pool team && keeps_standings pool.volunteers team) (meets_quotas categories pool.volunteers team)
    (and_from (is_of_size pool team) (keeps_standings pool.volunteers team) parts.of_size parts.standings) met) parts.households

pub team_below : (pool : Pool) (team : List ℕ) → is_of_size pool team ≡ true → AllByRecursion (λ i. i < length pool.volunteers) team
team_below pool team h =
    each_map (λ i. ltb i (length pool.volunteers) ≡ true) (λ i. i < length pool.volunteers) (λ i e. ltb-true i (length pool.volunteers) e) team
    (each_from_list_all (λ i. ltb i (length pool.volunteers)) team (and_parts _ _ h).1)

-- ---- the counts of teams are the compositions of the pool with the widest bounds

abbrev bound_of : BoundedValue → Bounds
bound_of value = record { lower = value.lower; upper = value.upper }

abbrev wide_bound : Bounds → Bounds
wide_bound bound = record { lower = 0; upper = 999 }

wide_values : (values : List BoundedValue) → map wide_bound (map bound_of values) ≡ map bound_of (map widest_value values)
wide_values [] = refl
wide_values (value ∷ values) = ap (λ rest. wide_bound (bound_of value) ∷ rest) (wide_values values)

wide_bounds : (categories : List Category) → map (λ values. map wide_bound values) (bounds_of categories) ≡ bounds_of (map widest_category categories)
wide_bounds [] = refl
wide_bounds (category ∷ categories) =
    let here = wide_values category.values in let rest = wide_bounds categories in rw (here, rest) refl

module _ (pool : Pool) (alike : ℕ → ℕ → Bool) where
  abbrev all : Classes
  all = classes_by alike pool

  abbrev wide : Classes
  wide = classes_by alike (widest pool)

  pub team_counts_same : team_counts all ≡ compositions wide
  team_counts_same = ap (λ bounds. compositions (record all { bounds = bounds })) (wide_bounds pool.categories)

  module _ (makes : MakesClasses pool alike) where
    -- for the counts of each team, the first members of each class, as many as the counts say, are a team
    pub first_teams : AllByRecursion (λ counts. is_team pool (first_panel all counts) ≡ true) (team_counts all)
    first_teams = subst (λ xs. AllByRecursion (λ counts. is_team pool (first_panel all counts) ≡ true) xs) (sym team_counts_same)
        (first_panels_fit (widest pool) alike (widest_makes pool alike makes))

    -- for the counts of each team, the first members of each class, as many as the counts say, have these counts as their composition
    pub first_teams_compose : AllByRecursion (λ counts. composition_of all (first_panel all counts) ≡ counts) (team_counts all)
    first_teams_compose = subst (λ xs. AllByRecursion (λ counts. composition_of all (first_panel all counts) ≡ counts) xs) (sym team_counts_same)
        (first_panels_compose (widest pool) alike (widest_makes pool alike makes))

    by_leaders : (team : List ℕ) → is_team pool team ≡ true → composition_of all team ≡ by_leader.composition_of alike (leaders alike (length pool.volunteers)) team
    by_leaders team h = composition_of_same pool alike makes team (team_below pool team (team_parts pool team h).of_size) (leaders alike (length pool.volunteers))

    -- the composition of a team is among the counts of teams
    pub team_composes : (team : List ℕ) → is_team pool team ≡ true → Contains (team_counts all) (composition_of all team)
    team_composes team h =
        let inside = of_compositions (widest pool) alike (widest_makes pool alike makes) team h (Contains (by_leader.compositions (widest pool) alike)) (each_itself (by_leader.compositions (widest pool) alike)) in
        subst (Contains (team_counts all)) (sym (by_leaders team h))
        (subst (λ xs. Contains xs (by_leader.composition_of alike (leaders alike (length pool.volunteers)) team)) (sym (team_counts_same ∙ compositions_same (widest pool) alike)) inside)

    value_is : (team : List ℕ) → is_team pool team ≡ true → (c v : ℕ) → taken_of (has_value c v) all.classes (composition_of all team) ≡ members_with pool.volunteers team c v
    value_is team h c v =
        taken_same pool alike (has_value c v) (leaders alike (length pool.volunteers)) (composition_of all team)
        ∙ ap (by_leader.taken_of (λ l. has_value c v (class_by alike pool l)) (leaders alike (length pool.volunteers))) (by_leaders team h)
        ∙ passing alike makes.same (length pool.volunteers) (λ i. eqb (slice_index (volunteer pool.volunteers i).values c) v)
        (λ i j e. ap (λ values. eqb (slice_index values c) v) (makes.values i j e)) team (team_below pool team (team_parts pool team h).of_size)

    -- a team costs what its composition costs
    pub cost_same : (team : List ℕ) → is_team pool team ≡ true → cost all (composition_of all team) ≡ team_cost pool team
    cost_same team h = categories_cost 0 pool.categories
      where
        values_cost : (c first : ℕ) (values : List BoundedValue) →
            sum_by (λ (v, bound). missed_by bound.lower bound.upper (taken_of (has_value c v) all.classes (composition_of all team))) (enumerate_from first (map bound_of values))
            ≡ sum_by (λ (v, value). missed_by value.lower value.upper (members_with pool.volunteers team c v)) (enumerate_from first values)
        values_cost c first values =
            let F : ℕ × Bounds → ℕ = λ (v, bound). missed_by bound.lower bound.upper (taken_of (has_value c v) all.classes (composition_of all team)) in
            let G : ℕ × BoundedValue → ℕ = λ (v, value). missed_by value.lower value.upper (members_with pool.volunteers team c v) in
            sum_by-is-total F (enumerate_from first (map bound_of values)) ∙ totals first values ∙ sym (sum_by-is-total G (enumerate_from first values))
          where
            totals : (first : ℕ) (values : List BoundedValue) →
                total (λ (v, bound). missed_by bound.lower bound.upper (taken_of (has_value c v) all.classes (composition_of all team))) (enumerate_from first (map bound_of values))
                ≡ total (λ (v, value). missed_by value.lower value.upper (members_with pool.volunteers team c v)) (enumerate_from first values)
            totals first [] = refl
            totals first (value ∷ values) =
                let here = ap (missed_by value.lower value.upper) (value_is team h c first) in let rest = totals (first + 1) values in rw (here, rest) refl

        categories_cost : (first : ℕ) (categories : List Category) →
            sum_by (λ (c, values). sum_by (λ (v, bound). missed_by bound.lower bound.upper (taken_of (has_value c v) all.classes (composition_of all team))) (enumerate_from 0 values)) (enumerate_from first (bounds_of categories))
            ≡ sum_by (λ (c, category). sum_by (λ (v, value). missed_by value.lower value.upper (members_with pool.volunteers team c v)) (enumerate_from 0 category.values)) (enumerate_from first categories)
        categories_cost first categories =
            let F : ℕ × List Bounds → ℕ = λ (c, values). sum_by (λ (v, bound). missed_by bound.lower bound.upper (taken_of (has_value c v) all.classes (composition_of all team))) (enumerate_from 0 values) in
            let G : ℕ × Category → ℕ = λ (c, category). sum_by (λ (v, value). missed_by value.lower value.upper (members_with pool.volunteers team c v)) (enumerate_from 0 category.values) in
            sum_by-is-total F (enumerate_from first (bounds_of categories)) ∙ totals first categories ∙ sym (sum_by-is-total G (enumerate_from first categories))
          where
            totals : (first : ℕ) (categories : List Category) →
                total (λ (c, values). sum_by (λ (v, bound). missed_by bound.lower bound.upper (taken_of (has_value c v) all.classes (composition_of all team))) (enumerate_from 0 values)) (enumerate_from first (bounds_of categories))
                ≡ total (λ (c, category). sum_by (λ (v, value). missed_by value.lower value.upper (members_with pool.volunteers team c v)) (enumerate_from 0 category.values)) (enumerate_from first categories)
            totals first [] = refl
            totals first (category ∷ categories) = let here = values_cost first 0 category.values in let rest = totals (first + 1) categories in rw (here, rest) refl
