-- Building a pool step by step: what each step adds, and the kinds of fault that a step may have, by their numbers in the text of a pool.
-- If several kinds apply, the fault has the lowest. Builds on Lists and Pool. `pool_model` builds pools this way, and `define_bundles`
-- uses the kinds. The definitions of bundles, proofs, imports and offices use parts of it, as `lowest_kind` and `category_names`.
use Rattle.std.specs.Prelude.{ℕ, zero, suc, ◌+◌, ◌==◌, nat_lt, nat_le, if◌then◌else◌, Bool, true, not, ◌&&◌, ◌||◌, List, [], ◌∷◌, ◌++◌, map, length, bytes_eq, Option, Some, None, unwrap_or, option_map}
use Rattle.define_pools.specs.declared.Limits.{Limits}
use Rattle.define_pools.specs.declared.Standing.{Standing}
use Rattle.define_pools.specs.declared.Standing.TheVariants.{Open}
use Rattle.define_pools.specs.Lists.{includes_list}
use Rattle.define_pools.specs.Pool.{Pool, Category, BoundedValue, Volunteer, most_volunteers, is_size, are_bounds, keeps_name_limits}

-- the first kind of the list that applies, or None. The list is in rising order; each kind comes with whether it applies
abbrev pub lowest_kind : List (ℕ × Bool) → Option ℕ
lowest_kind [] = None
lowest_kind ((kind, applies) ∷ rest) = if applies then Some kind else lowest_kind rest

abbrev pub category_names : List Category → List (List ℕ)
category_names categories = map (λ category. category.name) categories

abbrev pub value_names : List BoundedValue → List (List ℕ)
value_names values = map (λ value. value.name) values

abbrev pub ids : List Volunteer → List (List ℕ)
ids volunteers = map (λ volunteer. volunteer.id) volunteers

-- the values of the last category
abbrev pub last_values : List Category → List BoundedValue
last_values [] = []
last_values (category ∷ []) = category.values
last_values (category ∷ next ∷ later) = last_values (next ∷ later)

-- the categories, with the value appended to the last one
abbrev pub with_value : List Category → BoundedValue → List Category
with_value [] value = []
with_value (category ∷ []) value = record category { values = category.values ++ value ∷ [] } ∷ []
with_value (category ∷ next ∷ later) value = category ∷ with_value (next ∷ later) value

-- the place of the value with the name `name`, if there is one
abbrev pub place_of : List BoundedValue → List ℕ → Option ℕ
place_of [] name = None
place_of (value ∷ values) name = if bytes_eq name value.name then Some 0 else option_map (λ place. place + 1) (place_of values name)

-- for each category, the place of the value whose name `names` gives, or 0 if no value has this name. If the lists differ in length, the
-- longer one is cut
abbrev pub places_of : List Category → List (List ℕ) → List ℕ
places_of [] names = []
places_of (category ∷ categories) [] = []
places_of (category ∷ categories) (name ∷ names) = unwrap_or (place_of category.values name) 0 ∷ places_of categories names

-- each name is that of a value of its category. Names after the last category aren't tested
abbrev pub are_known : List Category → List (List ℕ) → Bool
are_known [] names = true
are_known (category ∷ categories) [] = true
are_known (category ∷ categories) (name ∷ names) = includes_list (value_names category.values) name && are_known categories names

-- a pool of size `size` without categories and volunteers
abbrev pub empty_pool : ℕ → Pool
empty_pool size = record { size = size; categories = []; volunteers = [] }

-- the kinds of fault of a size. Kind 2: the size is out of range
abbrev pub size_kinds : Limits → ℕ → List (ℕ × Bool)
size_kinds limits size = (2, not (is_size limits size)) ∷ []

abbrev pub size_kind : Limits → ℕ → Option ℕ
size_kind limits size = lowest_kind (size_kinds limits size)

abbrev pub category_added : Pool → List ℕ → Pool
category_added pool name = record pool { categories = pool.categories ++ record { name = name; values = [] } ∷ [] }

-- the kinds of fault of a new category. Kind 1: there are volunteers already. Kind 3: an earlier category has this name. Kind 10: the name
-- isn't allowed, or there are 20 categories already
abbrev pub category_kinds : Pool → List ℕ → List (ℕ × Bool)
category_kinds pool name =
    (1, nat_lt 0 (length pool.volunteers))
    ∷ (3, includes_list (category_names pool.categories) name)
    ∷ (10, not (keeps_name_limits name) || nat_le 20 (length pool.categories))
    ∷ []

abbrev pub category_kind : Pool → List ℕ → Option ℕ
category_kind pool name = lowest_kind (category_kinds pool name)

abbrev pub value_added : Pool → BoundedValue → Pool
value_added pool value = record pool { categories = with_value pool.categories value }

-- the kinds of fault of a new value. Kind 1: there is no category yet, or there are volunteers already. Kind 4: an earlier value of the
-- last category has this name. Kind 5: the lower bound is above the upper one, or the upper one above 999. Kind 10: the name isn't
-- allowed, or the category has 50 values already
abbrev pub value_kinds : Pool → BoundedValue → List (ℕ × Bool)
value_kinds pool value =
    (1, length pool.categories == 0 || nat_lt 0 (length pool.volunteers))
    ∷ (4, includes_list (value_names (last_values pool.categories)) value.name)
    ∷ (5, not (are_bounds value.lower value.upper))
    ∷ (10, not (keeps_name_limits value.name) || nat_le 50 (length (last_values pool.categories)))
    ∷ []

abbrev pub value_kind : Pool → BoundedValue → Option ℕ
value_kind pool value = lowest_kind (value_kinds pool value)

-- the pool with one more volunteer, open and without a household, who has the id `id` and in each category the value with the given name
abbrev pub volunteer_added : Pool → List ℕ → List (List ℕ) → Pool
volunteer_added pool id names =
    record pool { volunteers = pool.volunteers ++ record { id = id; values = places_of pool.categories names; standing = Open; household = None } ∷ [] }

-- the kinds of fault of a new volunteer. Kind 6: a name given for a category is none of its values. Kind 7: there isn't one name per
-- category. Kind 8: an earlier volunteer has this id. Kind 10: the id isn't allowed, or there are as many volunteers already as the limits
-- allow
abbrev pub volunteer_kinds : Limits → Pool → List ℕ → List (List ℕ) → List (ℕ × Bool)
volunteer_kinds limits pool id names =
    (6, not (are_known pool.categories names))
    ∷ (7, not (length names == length pool.categories))
    ∷ (8, includes_list (ids pool.volunteers) id)
    ∷ (10, not (keeps_name_limits id) || nat_le (most_volunteers limits) (length pool.volunteers))
    ∷ []

abbrev pub volunteer_kind : Limits → Pool → List ℕ → List (List ℕ) → Option ℕ
volunteer_kind limits pool id names = lowest_kind (volunteer_kinds limits pool id names)

-- the same volunteers, but the one at place `number`, counted from 0, has the standing `standing`
abbrev pub with_standing : List Volunteer → ℕ → Standing → List Volunteer
with_standing [] number standing = []
with_standing (volunteer ∷ volunteers) zero standing = record volunteer { standing = standing } ∷ volunteers
with_standing (volunteer ∷ volunteers) (suc number) standing = volunteer ∷ with_standing volunteers number standing

abbrev pub standing_set : Pool → ℕ → Standing → Pool
standing_set pool number standing = record pool { volunteers = with_standing pool.volunteers number standing }

-- the same volunteers, but the one at place `number`, counted from 0, has a household of the name `name`
abbrev pub with_household : List Volunteer → ℕ → List ℕ → List Volunteer
with_household [] number name = []
with_household (volunteer ∷ volunteers) zero name = record volunteer { household = Some name } ∷ volunteers
with_household (volunteer ∷ volunteers) (suc number) name = volunteer ∷ with_household volunteers number name

abbrev pub household_set : Pool → ℕ → List ℕ → Pool
household_set pool number name = record pool { volunteers = with_household pool.volunteers number name }

-- the kinds of fault of a household's name. Kind 10: the name isn't allowed
abbrev pub household_kinds : List ℕ → List (ℕ × Bool)
household_kinds name = (10, not (keeps_name_limits name)) ∷ []

abbrev pub household_kind : List ℕ → Option ℕ
household_kind name = lowest_kind (household_kinds name)
