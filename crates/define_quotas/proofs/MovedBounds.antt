-- Bounds that are moved just so far that a team meets them: what changes, by how much, and that the team is then a quota panel.
use Rattle.std.proofs.Common.{◌≡◌, ℕ, ◌+◌, ◌≤◌, Bool, true, ◌&&◌, leb, List, [], ◌∷◌, map, length, max, min, sum_by, refl, sym, ap, ◌∙◌, arith, subst, suc}
use Rattle.std.specs.List.{list_all, enumerate_from}
use Rattle.std.proofs.lemmas.Bool.{and_parts, and_from, leb-true, le-leb}
use Rattle.define_pools.proofs.Each.{list_all_equal}
use Rattle.define_pools.proofs.Sums.{sum_by-is-total, total, total_ext}
use Rattle.define_pools.specs.Lists.{all_different}
use Rattle.define_pools.specs.Pool.{BoundedValue, Category, IsPool, Pool, Volunteer, are_bounds, has_values, is_category, is_name, is_of_size, is_quota_panel, is_value, is_within, keeps_households, keeps_standings, meets_quotas, members_with}
use Rattle.define_quotas.specs.Teams.{DifferInBounds, bounds_moved, distance, is_team, loosened, loosened_category, loosened_value, missed_by, names_of_values, team_cost, values_moved, widest_category, widest_value}
use Rattle.define_quotas.proofs.WidestBounds.{panel_of_team, panel_parts, team_parts}

-- ---- the bounds of one value

moved_is_missed : (lower upper number : ℕ) → distance lower (min lower number) + distance upper (max upper number) ≡ missed_by lower upper number
moved_is_missed lower upper number = omega arith

lies_in_moved : (value : BoundedValue) (number : ℕ) → is_within (loosened_value value number) number ≡ true
lies_in_moved value number =
    and_from (leb (min value.lower number) number) (leb number (max value.upper number)) (le-leb (min value.lower number) number (omega arith)) (le-leb number (max value.upper number) (omega arith))

within_parts : (lower upper number : ℕ) → (leb lower number && leb number upper) ≡ true → (lower ≤ number) × (number ≤ upper)
within_parts lower upper number h =
    let parts = and_parts (leb lower number) (leb number upper) h in (leb-true lower number parts.0, leb-true number upper parts.1)

none_missed : (lower upper number : ℕ) → (leb lower number && leb number upper) ≡ true → missed_by lower upper number ≡ 0
none_missed lower upper number h = let parts = within_parts lower upper number h in let a = parts.0 in let b = parts.1 in omega arith

within_from_none : (lower upper number : ℕ) → missed_by lower upper number ≡ 0 → (leb lower number && leb number upper) ≡ true
within_from_none lower upper number z = and_from (leb lower number) (leb number upper) (le-leb lower number (omega arith)) (le-leb number upper (omega arith))

missed_within_moved : (lower upper low up number : ℕ) → (leb low number && leb number up) ≡ true → missed_by lower upper number ≤ distance lower low + distance upper up
missed_within_moved lower upper low up number h = let parts = within_parts low up number h in let a = parts.0 in let b = parts.1 in omega arith

-- a number within the bounds of a value of a pool is within the widest bounds
within_widest : (value : BoundedValue) (number : ℕ) → is_value value ≡ true → is_within value number ≡ true → (leb 0 number && leb number 999) ≡ true
within_widest value number right h =
    let bounds = and_parts (leb value.lower value.upper) (leb value.upper 999) (and_parts (is_name value.name) (are_bounds value.lower value.upper) right).1 in
    let high = leb-true value.upper 999 bounds.1 in let within = (within_parts value.lower value.upper number h).1 in
    and_from (leb 0 number) (leb number 999) (le-leb 0 number (omega arith)) (le-leb number 999 (omega arith))

still_value : (value : BoundedValue) (number : ℕ) → number ≤ 999 → is_value value ≡ true → is_value (loosened_value value number) ≡ true
still_value value number few h =
    let parts = and_parts (is_name value.name) (are_bounds value.lower value.upper) h in
    let bounds = and_parts (leb value.lower value.upper) (leb value.upper 999) parts.1 in
    let a = leb-true value.lower value.upper bounds.0 in let b = leb-true value.upper 999 bounds.1 in
    let low = min value.lower number in let up = max value.upper number in
    and_from (is_name value.name) (are_bounds low up) parts.0 (and_from (leb low up) (leb up 999) (le-leb low up (omega arith)) (le-leb up 999 (omega arith)))

-- ---- the bounds of the values of a category, and of all categories

module _ (volunteers : List Volunteer) (team : List ℕ) where
  abbrev number_of : ℕ → ℕ → ℕ
  number_of c v = members_with volunteers team c v

  abbrev loose_values : ℕ → ℕ → List BoundedValue → List BoundedValue
  loose_values c first values = map (λ (v, value). loosened_value value (number_of c v)) (enumerate_from first values)

  abbrev loose_categories : ℕ → List Category → List Category
  loose_categories first categories = map (λ (c, category). loosened_category volunteers team c category) (enumerate_from first categories)

  -- by how many people the team misses the bounds of these values of category `c`, in all; the first value has the place `first`
  values_missed : ℕ → ℕ → List BoundedValue → ℕ
  values_missed c first values = total (λ (v, value). missed_by value.lower value.upper (number_of c v)) (enumerate_from first values)

  all_missed : ℕ → List Category → ℕ
  all_missed first categories = total (λ (c, category). values_missed c 0 category.values) (enumerate_from first categories)

  -- the team meets the bounds of these values of category `c`; the first value has the place `first`
  abbrev values_meet : ℕ → ℕ → List BoundedValue → Bool
  values_meet c first values = list_all (λ (v, value). is_within value (number_of c v)) (enumerate_from first values)

  abbrev all_meet : ℕ → List Category → Bool
  all_meet first categories = list_all (λ (c, category). values_meet c 0 category.values) (enumerate_from first categories)

  value_names_same : (c first : ℕ) (values : List BoundedValue) → map (λ (value : BoundedValue). value.name) (loose_values c first values) ≡ map (λ (value : BoundedValue). value.name) values
  value_names_same c first [] = refl
  value_names_same c first (value ∷ values) = ap (λ names. value.name ∷ names) (value_names_same c (first + 1) values)

  values_moved_is : (c first : ℕ) (values : List BoundedValue) → values_moved values (loose_values c first values) ≡ values_missed c first values
  unfolding values_missed
  values_moved_is c first [] = refl
  values_moved_is c first (value ∷ values) =
      let here = moved_is_missed value.lower value.upper (number_of c first) in let rest = values_moved_is c (first + 1) values in rw (here, rest) refl

  values_met_now : (c first : ℕ) (values : List BoundedValue) → values_meet c first (loose_values c first values) ≡ true
  values_met_now c first [] = refl
  values_met_now c first (value ∷ values) =
      and_from (is_within (loosened_value value (number_of c first)) (number_of c first)) (values_meet c (first + 1) (loose_values c (first + 1) values))
      (lies_in_moved value (number_of c first)) (values_met_now c (first + 1) values)

  still_values : (c first : ℕ) (values : List BoundedValue) → values_meet c first (map widest_value values) ≡ true → list_all is_value values ≡ true → list_all is_value (loose_values c first values) ≡ true
  still_values c first [] wide h = refl
  still_values c first (value ∷ values) wide h =
      let parts = and_parts (is_value value) (list_all is_value values) h in
      let both = and_parts (is_within (widest_value value) (number_of c first)) (values_meet c (first + 1) (map widest_value values)) wide in
      and_from (is_value (loosened_value value (number_of c first))) (list_all is_value (loose_values c (first + 1) values))
      (still_value value (number_of c first) (within_parts 0 999 (number_of c first) both.0).1 parts.0) (still_values c (first + 1) values both.1 parts.1)

  values_many : (c first : ℕ) (values : List BoundedValue) → length (loose_values c first values) ≡ length values
  values_many c first [] = refl
  values_many c first (value ∷ values) = ap suc (values_many c (first + 1) values)

  none_missed_by_values : (c first : ℕ) (values : List BoundedValue) → values_meet c first values ≡ true → values_missed c first values ≡ 0
  unfolding values_missed
  none_missed_by_values c first [] h = refl
  none_missed_by_values c first (value ∷ values) h =
      let parts = and_parts (is_within value (number_of c first)) (values_meet c (first + 1) values) h in
      let here = none_missed value.lower value.upper (number_of c first) parts.0 in let rest = none_missed_by_values c (first + 1) values parts.1 in rw (here, rest) refl

  values_meet_from : (c first : ℕ) (values : List BoundedValue) → values_missed c first values ≡ 0 → values_meet c first values ≡ true
  unfolding values_missed
  values_meet_from c first [] z = refl
  values_meet_from c first (value ∷ values) z =
      and_from (is_within value (number_of c first)) (values_meet c (first + 1) values)
      (within_from_none value.lower value.upper (number_of c first) (omega (arith, z))) (values_meet_from c (first + 1) values (omega (arith, z)))

  -- if `others` have the names of `values`, and the team meets the bounds of `others`, the bounds of the two lists differ by at least as
  -- much as the team misses those of `values`
  values_missed_within : (c first : ℕ) (values others : List BoundedValue) → map (λ (value : BoundedValue). value.name) others ≡ map (λ (value : BoundedValue). value.name) values →
      values_meet c first others ≡ true → values_missed c first values ≤ values_moved values others
  unfolding values_missed
  values_missed_within c first [] others e h = omega arith
  values_missed_within c first (value ∷ values) [] e h = absurd cc
  values_missed_within c first (value ∷ values) (other ∷ others) e h =
      let parts = and_parts (is_within other (number_of c first)) (values_meet c (first + 1) others) h in
      let here = missed_within_moved value.lower value.upper other.lower other.upper (number_of c first) parts.0 in
      let rest = values_missed_within c (first + 1) values others (cc) parts.1 in omega (arith, here, rest)

  category_names_same : (first : ℕ) (categories : List Category) → map (λ (category : Category). category.name) (loose_categories first categories) ≡ map (λ (category : Category). category.name) categories
  category_names_same first [] = refl
  category_names_same first (category ∷ categories) = ap (λ names. category.name ∷ names) (category_names_same (first + 1) categories)

  all_value_names_same : (first : ℕ) (categories : List Category) → map names_of_values (loose_categories first categories) ≡ map names_of_values categories
  all_value_names_same first [] = refl
  all_value_names_same first (category ∷ categories) =
      let here = value_names_same first 0 category.values in let rest = all_value_names_same (first + 1) categories in rw (here, rest) refl

  bounds_moved_is : (first : ℕ) (categories : List Category) → bounds_moved categories (loose_categories first categories) ≡ all_missed first categories
  unfolding all_missed
  bounds_moved_is first [] = refl
  bounds_moved_is first (category ∷ categories) =
      let here = values_moved_is first 0 category.values in let rest = bounds_moved_is (first + 1) categories in rw (here, rest) refl

  all_met_now : (first : ℕ) (categories : List Category) → all_meet first (loose_categories first categories) ≡ true
  all_met_now first [] = refl
  all_met_now first (category ∷ categories) =
      and_from (values_meet first 0 (loose_values first 0 category.values)) (all_meet (first + 1) (loose_categories (first + 1) categories))
      (values_met_now first 0 category.values) (all_met_now (first + 1) categories)

  still_category : (c : ℕ) (category : Category) → values_meet c 0 (map widest_value category.values) ≡ true → is_category category ≡ true → is_category (loosened_category volunteers team c category) ≡ true
  still_category c category wide h =
      let A = is_name category.name in let B = leb (length category.values) 50 in
      let C = all_different (map (λ (value : BoundedValue). value.name) category.values) in let D = list_all is_value category.values in
      let d = and_parts (A && B && C) D h in let e = and_parts (A && B) C d.0 in let f = and_parts A B e.0 in
      let values = loose_values c 0 category.values in
      let many : leb (length values) 50 ≡ true = rw (values_many c 0 category.values) f.1 in
      let names : all_different (map (λ (value : BoundedValue). value.name) values) ≡ true = rw (value_names_same c 0 category.values) e.1 in
      and_from (A && leb (length values) 50 && all_different (map (λ (value : BoundedValue). value.name) values)) (list_all is_value values)
      (and_from (A && leb (length values) 50) (all_different (map (λ (value : BoundedValue). value.name) values)) (and_from A (leb (length values) 50) f.0 many) names)
      (still_values c 0 category.values wide d.1)

  still_categories : (first : ℕ) (categories : List Category) → all_meet first (map widest_category categories) ≡ true → list_all is_category categories ≡ true → list_all is_category (loose_categories first categories) ≡ true
  still_categories first [] wide h = refl
  still_categories first (category ∷ categories) wide h =
      let parts = and_parts (is_category category) (list_all is_category categories) h in
      let both = and_parts (values_meet first 0 (map widest_value category.values)) (all_meet (first + 1) (map widest_category categories)) wide in
      and_from (is_category (loosened_category volunteers team first category)) (list_all is_category (loose_categories (first + 1) categories))
      (still_category first category both.0 parts.0) (still_categories (first + 1) categories both.1 parts.1)

  categories_many : (first : ℕ) (categories : List Category) → length (loose_categories first categories) ≡ length categories
  categories_many first [] = refl
  categories_many first (category ∷ categories) = ap suc (categories_many (first + 1) categories)

  places_same : (first : ℕ) (categories : List Category) (places : List ℕ) → has_values (loose_categories first categories) places ≡ has_values categories places
  places_same first [] [] = refl
  places_same first [] (place ∷ places) = refl
  places_same first (category ∷ categories) [] = refl
  places_same first (category ∷ categories) (place ∷ places) =
      let many = values_many first 0 category.values in let rest = places_same (first + 1) categories places in rw (many, rest) refl

  none_missed_by_all : (first : ℕ) (categories : List Category) → all_meet first categories ≡ true → all_missed first categories ≡ 0
  unfolding all_missed
  none_missed_by_all first [] h = refl
  none_missed_by_all first (category ∷ categories) h =
      let parts = and_parts (values_meet first 0 category.values) (all_meet (first + 1) categories) h in
      let here = none_missed_by_values first 0 category.values parts.0 in let rest = none_missed_by_all (first + 1) categories parts.1 in rw (here, rest) refl

  all_meet_from : (first : ℕ) (categories : List Category) → all_missed first categories ≡ 0 → all_meet first categories ≡ true
  unfolding all_missed
  all_meet_from first [] z = refl
  all_meet_from first (category ∷ categories) z =
      and_from (values_meet first 0 category.values) (all_meet (first + 1) categories)
      (values_meet_from first 0 category.values (omega (arith, z))) (all_meet_from (first + 1) categories (omega (arith, z)))

  all_missed_within : (first : ℕ) (categories others : List Category) → map names_of_values others ≡ map names_of_values categories → all_meet first others ≡ true → all_missed first categories ≤ bounds_moved categories others
  unfolding all_missed
  all_missed_within first [] others e h = omega arith
  all_missed_within first (category ∷ categories) [] e h = absurd cc
  all_missed_within first (category ∷ categories) (other ∷ others) e h =
      let parts = and_parts (values_meet first 0 other.values) (all_meet (first + 1) others) h in
      let here = values_missed_within first 0 category.values other.values (cc) parts.0 in
      let rest = all_missed_within (first + 1) categories others (cc) parts.1 in omega (arith, here, rest)

  -- if `others` are values of a pool with the names of `values`, and the team meets their bounds, it meets the widest bounds
  values_widen : (c first : ℕ) (values others : List BoundedValue) → map (λ (value : BoundedValue). value.name) others ≡ map (λ (value : BoundedValue). value.name) values →
      list_all is_value others ≡ true → values_meet c first others ≡ true → values_meet c first (map widest_value values) ≡ true
  values_widen c first [] others e right h = refl
  values_widen c first (value ∷ values) [] e right h = absurd cc
  values_widen c first (value ∷ values) (other ∷ others) e right h =
      let parts = and_parts (is_within other (number_of c first)) (values_meet c (first + 1) others) h in
      let both = and_parts (is_value other) (list_all is_value others) right in
      and_from (is_within (widest_value value) (number_of c first)) (values_meet c (first + 1) (map widest_value values))
      (within_widest other (number_of c first) both.0 parts.0) (values_widen c (first + 1) values others (cc) both.1 parts.1)

  all_widen : (first : ℕ) (categories others : List Category) → map names_of_values others ≡ map names_of_values categories → list_all is_category others ≡ true →
      all_meet first others ≡ true → all_meet first (map widest_category categories) ≡ true
  all_widen first [] others e right h = refl
  all_widen first (category ∷ categories) [] e right h = absurd cc
  all_widen first (category ∷ categories) (other ∷ others) e right h =
      let parts = and_parts (values_meet first 0 other.values) (all_meet (first + 1) others) h in
      let both = and_parts (is_category other) (list_all is_category others) right in
      and_from (values_meet first 0 (map widest_value category.values)) (all_meet (first + 1) (map widest_category categories))
      (values_widen first 0 category.values other.values (cc) (and_parts _ _ both.0).1 parts.0) (all_widen (first + 1) categories others (cc) both.1 parts.1)

-- ---- the bounds of a pool

-- a team's cost is the number of people by which it misses the bounds, added up over the values of all categories
cost_is : (pool : Pool) (team : List ℕ) → team_cost pool team ≡ all_missed pool.volunteers team 0 pool.categories
unfolding all_missed values_missed
cost_is pool team =
    let G : ℕ × Category → ℕ = λ (c, category). sum_by (λ (v, value). missed_by value.lower value.upper (members_with pool.volunteers team c v)) (enumerate_from 0 category.values) in
    let H : ℕ × Category → ℕ = λ (c, category). total (λ (v, value). missed_by value.lower value.upper (members_with pool.volunteers team c v)) (enumerate_from 0 category.values) in
    sum_by-is-total G (enumerate_from 0 pool.categories)
    ∙ total_ext G H (λ (c, category). let F : ℕ × BoundedValue → ℕ = λ (v, value). missed_by value.lower value.upper (members_with pool.volunteers team c v) in sum_by-is-total F (enumerate_from 0 category.values)) (enumerate_from 0 pool.categories)

pub loosened_differs : (pool : Pool) (team : List ℕ) → DifferInBounds pool (loosened pool team)
loosened_differs pool team = record {
  size = refl;
  categories = category_names_same pool.volunteers team 0 pool.categories;
  values = all_value_names_same pool.volunteers team 0 pool.categories;
  volunteers = refl;
}

pub loosened_moves : (pool : Pool) (team : List ℕ) → bounds_moved pool.categories (loosened pool team).categories ≡ team_cost pool team
loosened_moves pool team = bounds_moved_is pool.volunteers team 0 pool.categories ∙ sym (cost_is pool team)

pub loosened_fits : (pool : Pool) (team : List ℕ) → is_team pool team ≡ true → is_quota_panel (loosened pool team) team ≡ true
loosened_fits pool team h = panel_of_team pool (loosened pool team).categories team h (all_met_now pool.volunteers team 0 pool.categories)

pub loosened_is_pool : (pool : Pool) (team : List ℕ) → IsPool pool → is_team pool team ≡ true → IsPool (loosened pool team)
loosened_is_pool pool team p h =
    record {
      size = p.size;
      few_categories = rw (categories_many pool.volunteers team 0 pool.categories) p.few_categories;
      categories = still_categories pool.volunteers team 0 pool.categories (team_parts pool team h).quotas p.categories;
      different_categories = rw (category_names_same pool.volunteers team 0 pool.categories) p.different_categories;
      few_volunteers = p.few_volunteers;
      ids = p.ids;
      different_ids = p.different_ids;
      values = list_all_equal (λ (v : Volunteer). has_values (loosened pool team).categories v.values) (λ (v : Volunteer). has_values pool.categories v.values)
          (λ v. places_same pool.volunteers team 0 pool.categories v.values) pool.volunteers ∙ p.values;
      households = p.households;
    }

-- a team that meets the quotas costs nothing; `met_if_free` is the converse
pub free_if_met : (pool : Pool) (team : List ℕ) → meets_quotas pool.categories pool.volunteers team ≡ true → team_cost pool team ≡ 0
free_if_met pool team h = cost_is pool team ∙ none_missed_by_all pool.volunteers team 0 pool.categories h

pub met_if_free : (pool : Pool) (team : List ℕ) → team_cost pool team ≡ 0 → meets_quotas pool.categories pool.volunteers team ≡ true
met_if_free pool team z = all_meet_from pool.volunteers team 0 pool.categories (sym (cost_is pool team) ∙ z)

-- if two pools differ in bounds alone, a quota panel of `other` is a team of `pool`, and costs at most what the bounds differ by in all
pub panel_of_other : (pool other : Pool) (team : List ℕ) → IsPool other → DifferInBounds pool other → is_quota_panel other team ≡ true →
    (is_team pool team ≡ true) × (team_cost pool team ≤ bounds_moved pool.categories other.categories)
panel_of_other pool other team p differ h =
    let parts = panel_parts other team h in
    let met : all_meet pool.volunteers team 0 other.categories ≡ true = subst (λ vs. all_meet vs team 0 other.categories ≡ true) differ.volunteers parts.quotas in
    let wide = all_widen pool.volunteers team 0 pool.categories other.categories differ.values p.categories met in
    let size : is_of_size pool team ≡ true = subst (λ vs. is_of_size (record { size = pool.size; categories = pool.categories; volunteers = vs }) team ≡ true) differ.volunteers
    (subst (λ size. is_of_size (record { size = size; categories = pool.categories; volunteers = other.volunteers }) team ≡ true) differ.size parts.of_size) in
    let standings = subst (λ vs. keeps_standings vs team ≡ true) differ.volunteers parts.standings in
    let households = subst (λ vs. keeps_households vs team ≡ true) differ.volunteers parts.households in (
      and_from (is_of_size pool team && keeps_standings pool.volunteers team && all_meet pool.volunteers team 0 (map widest_category pool.categories)) (keeps_households pool.volunteers team)
          (and_from (is_of_size pool team && keeps_standings pool.volunteers team) (all_meet pool.volunteers team 0 (map widest_category pool.categories))
          (and_from (is_of_size pool team) (keeps_standings pool.volunteers team) size standings) wide) households,
      omega (arith, cost_is pool team, all_missed_within pool.volunteers team 0 pool.categories other.categories differ.values met),
    )

-- a quota panel of a pool is a team
pub team_of_panel : (pool : Pool) (panel : List ℕ) → IsPool pool → is_quota_panel pool panel ≡ true → is_team pool panel ≡ true
team_of_panel pool panel p h =
    (panel_of_other pool pool panel p (record { size = refl; categories = refl; values = refl; volunteers = refl }) h).0
