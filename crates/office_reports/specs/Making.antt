-- The values, the categories and the volunteers that the steps of making a pool make. Builds on Generator and MadePools of
-- `define_made_pools`, and on Pool and Building of `define_pools`. The contracts of `generator` and `made_pools` cite it.
use Rattle.std.specs.Prelude.{ℕ, ◌==◌, ◌%◌, ◌<◌, None, List, [], ◌∷◌, count_by, codes, map, slice_index}
use Rattle.std.specs.List.{enumerate_from}
use Rattle.define_pools.specs.declared.Standing.TheVariants.{Open}
use Rattle.define_pools.specs.Pool.{Category, Volunteer}
use Rattle.define_pools.specs.Building.{value_names}
use Rattle.define_made_pools.specs.Generator.{next_state, upper_bits}
use Rattle.define_made_pools.specs.MadePools.{ages, areas, bounded_by, genders, made_id}

-- the values of a volunteer, made of the three numbers after state `x`
abbrev pub values_behind : ℕ → List ℕ
values_behind x =
    let first = next_state x in
    let second = next_state first in
    let third = next_state second in
    upper_bits first % 2 ∷ upper_bits second % 3 ∷ upper_bits third % 2 ∷ []

-- how many of the lists of values have `value_place` at `place`
abbrev pub members_with : List (List ℕ) → ℕ → ℕ → ℕ
members_with first place value_place = count_by (λ values. slice_index values place == value_place) first

-- a category whose bounds come from the values of the first volunteers
abbrev pub category_by : List (List ℕ) → ℕ → List ℕ → List (List ℕ) → Category
category_by first place name value_names = record {
  name = name;
  values = map (λ (value_place, value_name). bounded_by value_name (members_with first place value_place)) (enumerate_from 0 value_names);
}

-- the three categories of a made pool, with the bounds that come from the values of the first volunteers
abbrev pub categories_by : List (List ℕ) → List Category
categories_by first = category_by first 0 (codes "gender") genders ∷ category_by first 1 (codes "age") ages ∷ category_by first 2 (codes "area") areas ∷ []

-- for each category the names of its values
abbrev pub names_of_values : List Category → List (List (List ℕ))
names_of_values categories = map (λ category. value_names category.values) categories

-- the names of the values of a made pool
abbrev pub made_names : List (List (List ℕ))
made_names = genders ∷ ages ∷ areas ∷ []

-- the three numbers are the places of a gender, an age and an area among the values of their categories
abbrev pub ArePlaces : List ℕ → Type 0
ArePlaces values = (slice_index values 0 < 2) × (slice_index values 1 < 3) × (slice_index values 2 < 2)

-- volunteer `number` with these three values
abbrev pub with_values : ℕ → List ℕ → Volunteer
with_values number values = record {
  id = made_id number;
  values = slice_index values 0 ∷ slice_index values 1 ∷ slice_index values 2 ∷ [];
  standing = Open;
  household = None;
}
