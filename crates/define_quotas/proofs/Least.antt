-- The cheapest counts give a least loosening.
use Rattle.std.proofs.Common.{◌≡◌, ℕ, ◌≤◌, Bool, true, List, [], ◌∷◌, filter, Option, Some, None, refl, sym, ap, ◌∙◌, arith, subst}
use Rattle.std.specs.Prelude.{◌↔◌, ◌≢◌, option_map}
use Rattle.std.specs.List.{AllByRecursion}
use Rattle.define_pools.proofs.Each.{each_filter_passes}
use Rattle.define_pools.specs.Pool.{IsPool, Pool, is_quota_panel, panels}
use Rattle.define_pools.proofs.AllPanels.{each_panel}
use Rattle.define_searches.specs.Classes.{MakesClasses, are_alike, classes_by, classes_of}
use Rattle.define_searches.specs.Compositions.{composition_of, compositions, first_panel}
use Rattle.define_searches.proofs.Contained.{each_contains}
use Rattle.define_searches.proofs.Order.{Ordered, compositions_ordered}
use Rattle.define_quotas.specs.Costs.{cheapest_team, cost, team_counts}
use Rattle.define_quotas.specs.Loosenings.{IsCheapest, IsLeast, Loosening, least_loosening, loosening_for}
use Rattle.define_quotas.specs.Teams.{is_team, team_cost, widest}
use Rattle.define_quotas.proofs.Cheapest.{IsDearer, IsFirst, found_first, none_found}
use Rattle.define_quotas.proofs.WidestBounds.{cost_same, first_teams, first_teams_compose, panel_of_team, panel_parts, team_composes, team_counts_same}
use Rattle.define_quotas.proofs.MovedBounds.{free_if_met, loosened_differs, loosened_fits, loosened_is_pool, loosened_moves, met_if_free, panel_of_other, team_of_panel}

all_kept : (xs : List (List ℕ)) → filter (λ counts. true) xs ≡ xs
all_kept [] = refl
all_kept (x ∷ xs) = ap (λ rest. x ∷ rest) (all_kept xs)

module _ (pool : Pool) (alike : ℕ → ℕ → Bool) (makes : MakesClasses pool alike) where
  ordered : Ordered (team_counts (classes_by alike pool))
  ordered = subst Ordered (all_kept (compositions (classes_by alike (widest pool))) ∙ sym (team_counts_same pool alike)) (compositions_ordered (classes_by alike (widest pool)) (λ counts. true))

  pub cheapest_is : (counts : List ℕ) → cheapest_team (classes_by alike pool) ≡ Some counts → IsCheapest pool alike counts (first_panel (classes_by alike pool) counts)
  cheapest_is counts e = record {
    is_one = is_one;
    composition = composed;
    none_cheaper = λ other h. let d = (dearer other h).0 in omega (arith, d, here, cost_same pool alike makes other h);
    first = λ other h before. let d = (dearer other h).1 before in omega (arith, d, here, cost_same pool alike makes other h);
  }
    where
      found : IsFirst (cost (classes_by alike pool)) (team_counts (classes_by alike pool)) counts
      found = found_first (cost (classes_by alike pool)) (team_counts (classes_by alike pool)) counts ordered e

      is_one : is_team pool (first_panel (classes_by alike pool) counts) ≡ true
      is_one = each_contains (λ counts. is_team pool (first_panel (classes_by alike pool) counts) ≡ true) (team_counts (classes_by alike pool)) counts (first_teams pool alike makes) found.listed

      composed : composition_of (classes_by alike pool) (first_panel (classes_by alike pool) counts) ≡ counts
      composed = each_contains (λ counts. composition_of (classes_by alike pool) (first_panel (classes_by alike pool) counts) ≡ counts) (team_counts (classes_by alike pool)) counts (first_teams_compose pool alike makes) found.listed

      here : cost (classes_by alike pool) counts ≡ team_cost pool (first_panel (classes_by alike pool) counts)
      here = ap (cost (classes_by alike pool)) (sym composed) ∙ cost_same pool alike makes (first_panel (classes_by alike pool) counts) is_one

      dearer : (other : List ℕ) → is_team pool other ≡ true → IsDearer (cost (classes_by alike pool)) counts (composition_of (classes_by alike pool) other)
      dearer other h = each_contains (IsDearer (cost (classes_by alike pool)) counts) (team_counts (classes_by alike pool)) (composition_of (classes_by alike pool) other) found.dearer (team_composes pool alike makes other h)

  no_team : cheapest_team (classes_by alike pool) ≡ None → (team : List ℕ) → is_team pool team ≡ true → ⊥
  no_team e team h =
      let none = none_found (cost (classes_by alike pool)) (team_counts (classes_by alike pool)) e in
      each_contains (λ counts. ⊥) (team_counts (classes_by alike pool)) (composition_of (classes_by alike pool) team) (subst (AllByRecursion (λ counts. ⊥)) (sym none) tt) (team_composes pool alike makes team h)

  pub none_is : cheapest_team (classes_by alike pool) ≡ None ↔ ((team : List ℕ) → is_team pool team ≡ true → ⊥)
  none_is = (no_team, λ none. by none (cheapest_team (classes_by alike pool)) refl)
    where
      by : ((team : List ℕ) → is_team pool team ≡ true → ⊥) → (found : Option (List ℕ)) → cheapest_team (classes_by alike pool) ≡ found → cheapest_team (classes_by alike pool) ≡ None
      by none None e = e
      by none (Some counts) e = absurd (none (first_panel (classes_by alike pool) counts) (cheapest_is counts e).is_one)

-- ---- least loosenings

-- if a pool's list of quota panels isn't empty, there is a quota panel
some_panel : (pool : Pool) → panels pool ≢ [] → (panel : List ℕ) × (is_quota_panel pool panel ≡ true)
some_panel pool some = by (panels pool) refl (each_filter_passes (λ panel. is_quota_panel pool panel ≡ true) (is_quota_panel pool) (λ panel h. h) _)
  where
    by : (xs : List (List ℕ)) → panels pool ≡ xs → AllByRecursion (λ panel. is_quota_panel pool panel ≡ true) xs → (panel : List ℕ) × (is_quota_panel pool panel ≡ true)
    by [] e h = absurd (some e)
    by (panel ∷ later) e h = (panel, h.0)

pub has_panels : (pool : Pool) (panel : List ℕ) → is_quota_panel pool panel ≡ true → panels pool ≢ []
has_panels pool panel h none = each_panel (λ panel. ⊥) pool (subst (AllByRecursion (λ panel. ⊥)) (sym none) tt) panel h

-- the loosening for a team is least if no team costs less
pub least_is : (pool : Pool) (team : List ℕ) → IsPool pool → is_team pool team ≡ true → ((other : List ℕ) → is_team pool other ≡ true → team_cost pool team ≤ team_cost pool other) → IsLeast pool (loosening_for pool team)
least_is pool team p h cheapest = record {
  bounds_alone = loosened_differs pool team;
  moved = loosened_moves pool team;
  is_pool = loosened_is_pool pool team p h;
  fits = loosened_fits pool team h;
  no_less = λ other q differ some.
      let panel = some_panel other some in let parts = panel_of_other pool other panel.0 q differ panel.1 in
      let within = cheapest panel.0 parts.0 in let m = parts.1 in omega arith;
  none_needed = (
    λ z. has_panels pool team (panel_of_team pool pool.categories team h (met_if_free pool team z)),
    λ some. let panel = some_panel pool some in
        let within = cheapest panel.0 (team_of_panel pool panel.0 p panel.1) in let z = free_if_met pool panel.0 (panel_parts pool panel.0 panel.1).quotas in omega arith,
  );
}

pub least_loosening_least : (pool : Pool) → IsPool pool → MakesClasses pool (are_alike pool) → (loosening : Loosening) → least_loosening pool ≡ Some loosening → IsLeast pool loosening
least_loosening_least pool p makes loosening e = by (cheapest_team (classes_of pool)) refl e
  where
    by : (found : Option (List ℕ)) → cheapest_team (classes_of pool) ≡ found → option_map (λ counts. loosening_for pool (first_panel (classes_of pool) counts)) found ≡ Some loosening → IsLeast pool loosening
    by None f e = absurd cc
    by (Some counts) f e =
        let cheapest = cheapest_is pool (are_alike pool) makes counts f in
        let same : loosening_for pool (first_panel (classes_of pool) counts) ≡ loosening = cc in
        subst (IsLeast pool) same (least_is pool (first_panel (classes_of pool) counts) p cheapest.is_one cheapest.none_cheaper)

pub no_loosening : (pool : Pool) → MakesClasses pool (are_alike pool) → least_loosening pool ≡ None ↔ ((team : List ℕ) → is_team pool team ≡ true → ⊥)
no_loosening pool makes = (λ e. (none_is pool (are_alike pool) makes).0 (nothing (cheapest_team (classes_of pool)) e), λ none. ap (option_map (λ counts. loosening_for pool (first_panel (classes_of pool) counts))) ((none_is pool (are_alike pool) makes).1 none))
  where
    nothing : (found : Option (List ℕ)) → option_map (λ counts. loosening_for pool (first_panel (classes_of pool) counts)) found ≡ None → found ≡ None
    nothing None e = refl
    nothing (Some counts) e = absurd cc
