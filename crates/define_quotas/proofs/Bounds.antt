-- Bounds on what teams cost, by what weighted quotas ask for, and by the two parts of a split.
use Rattle.std.proofs.Common.{◌≡◌, ℕ, ◌+◌, ◌*◌, ◌≤◌, ◌<◌, Bool, true, false, leb, List, [], ◌∷◌, ◌++◌, Option, Some, None, set, refl, ap, ◌∙◌, arith, ⊎_elim}
use Rattle.std.specs.Prelude.{count_by}
use Rattle.std.specs.List.{AllByRecursion, list_all}
use Rattle.std.proofs.lemmas.Bool.{cases_lt}
use Rattle.std.proofs.Math.Nat.{mul-le-mul_left}
use Rattle.define_pools.proofs.Each.{each_from_list_all, each_map}
use Rattle.define_pools.proofs.Sums.{sum_by-is-total, total}
use Rattle.define_pools.specs.declared.Standing.{Standing}
use Rattle.define_pools.specs.declared.Standing.TheVariants.{Seated, Gone}
use Rattle.define_pools.specs.Lists.{includes}
use Rattle.define_pools.specs.Pool.{IsPool, Pool, allows}
use Rattle.define_proofs.specs.Leaves.{standings}
use Rattle.define_quotas.specs.declared.Counted.{Counted}
use Rattle.define_quotas.specs.declared.Counted.TheVariants.{Everybody, WithValue, OfHousehold}
use Rattle.define_quotas.specs.declared.Quota.{Quota}
use Rattle.define_quotas.specs.declared.Side.{Side}
use Rattle.define_quotas.specs.declared.Side.TheVariants.{AtLeast, AtMost}
use Rattle.define_quotas.specs.declared.WeightedQuota.{WeightedQuota}
use Rattle.define_quotas.specs.LeastMisses.{asked, given, quotas_of, weighed_misses}
use Rattle.define_quotas.specs.Quotas.{bound_of, is_counted, is_selection_at, miss, missed, misses}
use Rattle.define_quotas.proofs.Asking.{asked_or_missed, few_misses}
use Rattle.define_quotas.proofs.NoPanel.{own_household_met, own_selected, own_size_met}
use Rattle.define_quotas.proofs.Splits.{selection_set}
use Rattle.define_quotas.specs.Loosenings.{IsLeast, Loosening, loosening_for}
use Rattle.define_quotas.specs.Teams.{is_team, loosened, team_cost}
use Rattle.define_quotas.proofs.Least.{has_panels, least_is}
use Rattle.define_quotas.proofs.MovedBounds.{loosened_fits}
use Rattle.define_quotas.specs.AllQuotas.{value_quotas}
use Rattle.define_quotas.specs.CostBounds.{CostsAt, IsAtLeast, is_met_by_teams}
use Rattle.define_quotas.proofs.CostsAsked.{misses_are_cost, total-append}

-- ---- quotas that each team meets

module _ (pool : Pool) (team : List ℕ) (is : is_team pool team ≡ true) where
  -- by how many people the team misses a quota
  abbrev missed_of : Side → Counted → ℕ
  missed_of side counted = missed side (bound_of pool side counted) (count_by (is_counted pool counted) team)

  -- a team misses no quota of the size or of a household: it is a quota panel of the pool that is loosened for it, and this pool has the
  -- same size, volunteers and households
  met : (side : Side) (counted : Counted) → is_met_by_teams counted ≡ true → missed_of side counted ≡ 0
  met side Everybody h = size side
    where
      size : (side : Side) → missed_of side Everybody ≡ 0
      size AtLeast = own_size_met (loosened pool team) team (loosened_fits pool team is) AtLeast
      size AtMost = own_size_met (loosened pool team) team (loosened_fits pool team is) AtMost
  met side (WithValue category value) h = absurd cc
  met side (OfHousehold member) h = household side
    where
      household : (side : Side) → missed_of side (OfHousehold member) ≡ 0
      household AtLeast = own_household_met (loosened pool team) team (loosened_fits pool team is) member AtLeast
      household AtMost = own_household_met (loosened pool team) team (loosened_fits pool team is) member AtMost

  abbrev weighed : WeightedQuota → ℕ
  weighed it = it.weight * miss pool team it.quota

  zero_product : (w m : ℕ) → m ≡ 0 → w * m ≡ 0
  zero_product w m e = rw e (omega arith)

  zero_sum : (xs : List WeightedQuota) → AllByRecursion (λ it. weighed it ≡ 0) xs → total weighed xs ≡ 0
  zero_sum [] h = refl
  zero_sum (x ∷ xs) h = let here = h.0 in let rest = zero_sum xs h.1 in omega (arith, here, rest)

  none_missed : (quotas : List WeightedQuota) → list_all (λ it. is_met_by_teams it.quota.counted) quotas ≡ true → weighed_misses pool team quotas ≡ 0
  none_missed quotas all_met =
      sum_by-is-total weighed quotas
      ∙ zero_sum quotas (each_map (λ it. is_met_by_teams it.quota.counted ≡ true) (λ it. weighed it ≡ 0)
      (λ it h. zero_product it.weight (miss pool team it.quota) (met it.quota.side it.quota.counted h)) quotas
      (each_from_list_all (λ it. is_met_by_teams it.quota.counted) quotas all_met))

  weighed_apart : (values others : List WeightedQuota) → weighed_misses pool team (values ++ others) ≡ weighed_misses pool team values + weighed_misses pool team others
  weighed_apart values others =
      let left = sum_by-is-total weighed (values ++ others) in
      let one = sum_by-is-total weighed values in
      let two = sum_by-is-total weighed others in
      let apart = total-append weighed values others in
      omega (arith, left, one, two, apart)

-- ---- quotas that ask for more than can be given, and the cost of teams

pub more_costs : (pool : Pool) (values others : List WeightedQuota) (all : List Standing) (greatest cost : ℕ) → quotas_of values ≡ value_quotas pool →
    list_all (λ it. leb it.weight greatest) values ≡ true → list_all (λ it. is_met_by_teams it.quota.counted) others ≡ true →
    given pool (values ++ others) all + greatest * cost < asked pool (values ++ others) all → CostsAt pool all (Some (cost + 1))
more_costs pool values others all greatest cost each_once light all_met more team is keeps =
    let least = asked_or_missed pool (values ++ others) all team keeps in
    let apart = weighed_apart pool team is values others in
    let none = none_missed pool team is others all_met in
    let few = few_misses pool values all team keeps greatest light in
    let same = ap (λ (quotas : List Quota). misses pool team quotas * greatest) each_once ∙ ap (λ n. n * greatest) (misses_are_cost pool team) in
    let n = team_cost pool team in
    ⊎_elim (λ (lt : cost < n). let r : cost + 1 ≤ n = omega arith in r)
    (λ (le : n ≤ cost). let product = mul-le-mul_left greatest le in absurd (omega (arith, least, apart, none, few, same, more, product)))
    (cases_lt cost n)

pub none_keeps : (pool : Pool) (others : List WeightedQuota) (all : List Standing) → list_all (λ it. is_met_by_teams it.quota.counted) others ≡ true →
    given pool others all < asked pool others all → CostsAt pool all None
none_keeps pool others all all_met more team is keeps =
    let least = asked_or_missed pool others all team keeps in
    let none = none_missed pool team is others all_met in
    omega (arith, least, none, more)

-- ---- the two parts of a split

pub both_cost : (pool : Pool) (all : List Standing) (i : ℕ) (least : Option ℕ) → CostsAt pool (set all i Gone) least → CostsAt pool (set all i Seated) least → CostsAt pool all least
both_cost pool all i least without with team is keeps = by (includes team i) refl
  where
    by : (b : Bool) → includes team i ≡ b → IsAtLeast least (team_cost pool team)
    by false e = without team is (selection_set team i all Gone keeps (ap (allows Gone) e))
    by true e = with team is (selection_set team i all Seated keeps (ap (allows Seated) e))

-- ---- bounds that show that a loosening is least

-- a team is a selection of the pool
pub team_keeps : (pool : Pool) (team : List ℕ) → is_team pool team ≡ true → is_selection_at (standings pool) team ≡ true
team_keeps pool team is = own_selected (loosened pool team) team (loosened_fits pool team is)

pub least_by_bound : (pool : Pool) (team : List ℕ) → IsPool pool → is_team pool team ≡ true → CostsAt pool (standings pool) (Some (team_cost pool team)) → IsLeast pool (loosening_for pool team)
least_by_bound pool team p is bound = least_is pool team p is (λ other h. bound other h (team_keeps pool other h))

pub no_team_by_bound : (pool : Pool) → CostsAt pool (standings pool) None → (team : List ℕ) → is_team pool team ≡ true → ⊥
no_team_by_bound pool bound team is = bound team is (team_keeps pool team is)

at_most : (pool : Pool) (one other : Loosening) → IsLeast pool one → IsLeast pool other → one.total ≤ other.total
at_most pool one other first second =
    let within = first.no_less other.pool second.is_pool second.bounds_alone (has_panels other.pool other.panel second.fits) in
    let moved = second.moved in omega (arith, within, moved)

pub equal_totals : (pool : Pool) (one other : Loosening) → IsLeast pool one → IsLeast pool other → one.total ≡ other.total
equal_totals pool one other first second =
    let a = at_most pool one other first second in
    let b = at_most pool other one second first in
    omega (arith, a, b)
