-- The loosening that the search finds is the pool's least; and if there is no team, there is no quota panel.
use Rattle.std.proofs.Common.{◌≡◌, ℕ, List, [], ◌∷◌, Option, Some, None, true, refl, sym, ap, subst}
use Rattle.std.specs.Prelude.{option_map}
use Rattle.std.specs.List.{AllByRecursion}
use Rattle.define_pools.proofs.Each.{each_filter_passes}
use Rattle.define_quotas.specs.Costs.{cheapest_team}
use Rattle.define_quotas.specs.Loosenings.{IsCheapest, IsLeast, Loosening, least_loosening, loosening_for}
use Rattle.define_quotas.specs.Teams.{is_team}
use Rattle.define_quotas.proofs.MovedBounds.{team_of_panel}
use Rattle.define_pools.specs.Pool.{IsPool, Pool, is_quota_panel, panels}
use Rattle.define_searches.specs.Classes.{are_alike, classes_of}
use Rattle.define_searches.specs.Compositions.{composition_of, first_panel}
use Rattle.command_meanings.specs.Loosening.{IsLeastLoosening}

-- if there is no team, there is no quota panel, since each quota panel is a team
pub no_panels : (pool : Pool) → IsPool pool → ((team : List ℕ) → is_team pool team ≡ true → ⊥) → panels pool ≡ []
no_panels pool is none = by (panels pool) refl (each_filter_passes (λ panel. is_quota_panel pool panel ≡ true) (is_quota_panel pool) (λ panel h. h) _)
  where
    by : (found : List (List ℕ)) → panels pool ≡ found → AllByRecursion (λ panel. is_quota_panel pool panel ≡ true) found → panels pool ≡ []
    by [] e h = e
    by (panel ∷ later) e h = absurd (none panel (team_of_panel pool panel is h.0))

-- if the first panel with the cheapest counts is a cheapest team, so is the panel of the least loosening, since it is this first panel
pub the_least : (pool : Pool) (loosening : Loosening) →
    ((counts : List ℕ) → cheapest_team (classes_of pool) ≡ Some counts → IsCheapest pool (are_alike pool) counts (first_panel (classes_of pool) counts)) →
    IsLeast pool loosening → least_loosening pool ≡ Some loosening → IsLeastLoosening pool loosening
the_least pool loosening cheapest least e = record { found = e; least = least; cheapest = by (cheapest_team (classes_of pool)) refl e }
  where
    by : (found : Option (List ℕ)) → cheapest_team (classes_of pool) ≡ found →
        option_map (λ counts. loosening_for pool (first_panel (classes_of pool) counts)) found ≡ Some loosening →
        IsCheapest pool (are_alike pool) (composition_of (classes_of pool) loosening.panel) loosening.panel
    by None f e = absurd cc
    by (Some counts) f e =
        let first = first_panel (classes_of pool) counts in
        let same : loosening_for pool first ≡ loosening = cc in
        let panel : first ≡ loosening.panel = ap (λ (l : Loosening). l.panel) same in
        let its = cheapest counts f in
        subst (λ members. IsCheapest pool (are_alike pool) (composition_of (classes_of pool) members) members) panel
        (subst (λ composition. IsCheapest pool (are_alike pool) composition first) (sym its.composition) its)
