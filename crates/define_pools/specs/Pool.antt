-- Pools, quota panels, and the list of a pool's quota panels. Builds on Lists. Every other file about pools builds on this one.
use Rattle.std.specs.Prelude.{ℕ, ◌==◌, nat_lt, nat_le, if◌then◌else◌, Bool, true, false, not, ◌&&◌, IsTrue, List, [], ◌∷◌, map, length, count_by, filter, slice_index, slice_index_or, Option, Some, None, is_some, bytes_eq}
use Rattle.std.specs.List.{list_all, list_any, enumerate_from, range_with_len}
use Rattle.std.specs.Str.{is_utf8}
use Rattle.define_pools.specs.declared.Limits.{Limits}
use Rattle.define_pools.specs.declared.Limits.TheVariants.{Usual, Large}
use Rattle.define_pools.specs.declared.Standing.{Standing}
use Rattle.define_pools.specs.declared.Standing.TheVariants.{Open, Seated, Gone}
use Rattle.define_pools.specs.Lists.{choices, includes, is_increasing, all_different}

-- a value of a category, and the least and the greatest number of a panel's members who may have it
pub record BoundedValue : Type 0 where
  pub name : List ℕ
  pub lower : ℕ
  pub upper : ℕ

-- a category and its values
pub record Category : Type 0 where
  pub name : List ℕ
  pub values : List BoundedValue

-- a volunteer: an id, for each category the place of a value, a standing, and the name of a household, if one is known
pub record Volunteer : Type 0 where
  pub id : List ℕ
  pub values : List ℕ
  pub standing : Standing
  pub household : Option (List ℕ)

-- a pool: the size of its panels, its categories, and its volunteers, who are numbered from 0
pub record Pool : Type 0 where
  pub size : ℕ
  pub categories : List Category
  pub volunteers : List Volunteer

-- 1 to 200 bytes, none of them below 32 and none of them 127
abbrev pub keeps_name_limits : List ℕ → Bool
keeps_name_limits name =
    nat_le 1 (length name) && nat_le (length name) 200 && list_all (λ byte. nat_le 32 byte && not (byte == 127)) name

-- a name or an id: a text of UTF-8 within the limits of a name
abbrev pub is_name : List ℕ → Bool
is_name name = keeps_name_limits name && is_utf8 name

-- no household, or one with a name that is allowed
abbrev pub is_household : Option (List ℕ) → Bool
is_household None = true
is_household (Some name) = is_name name

-- the greatest number of a panel's members
abbrev pub most_members : Limits → ℕ
most_members Usual = 200
most_members Large = 1000

-- the greatest number of volunteers
abbrev pub most_volunteers : Limits → ℕ
most_volunteers Usual = 400
most_volunteers Large = 4000

-- the limits that a pool with this many volunteers needs
abbrev pub limits_for : ℕ → Limits
limits_for volunteers = if nat_le volunteers (most_volunteers Usual) then Usual else Large

-- a panel has at least one member, and at most as many as the limits say
abbrev pub is_size : Limits → ℕ → Bool
is_size limits size = nat_le 1 size && nat_le size (most_members limits)

-- the lower bound is at most the upper one, which is at most 999
abbrev pub are_bounds : ℕ → ℕ → Bool
are_bounds lower upper = nat_le lower upper && nat_le upper 999

-- a value has a name and bounds
abbrev pub is_value : BoundedValue → Bool
is_value value = is_name value.name && are_bounds value.lower value.upper

-- a category has a name and at most 50 values, each of which satisfies `is_value`, with different names
abbrev pub is_category : Category → Bool
is_category category =
    is_name category.name && nat_le (length category.values) 50 && all_different (map (λ value. value.name) category.values)
    && list_all is_value category.values

-- the list of places has one place for each category, that of one of the category's values
abbrev pub has_values : List Category → List ℕ → Bool
has_values [] [] = true
has_values [] (place ∷ places) = false
has_values (category ∷ categories) [] = false
has_values (category ∷ categories) (place ∷ places) = nat_lt place (length category.values) && has_values categories places

-- the pool's numbers, names and bounds are within the limits. Its categories have different names, and its volunteers different ids. Each
-- volunteer has a value of each category
pub record IsPool (pool : Pool) : Type 0 where
  pub size : IsTrue (is_size Large pool.size)
  pub few_categories : IsTrue (nat_le (length pool.categories) 20)
  pub categories : IsTrue (list_all is_category pool.categories)
  pub different_categories : IsTrue (all_different (map (λ category. category.name) pool.categories))
  pub few_volunteers : IsTrue (nat_le (length pool.volunteers) (most_volunteers Large))
  pub ids : IsTrue (list_all (λ volunteer. is_name volunteer.id) pool.volunteers)
  pub different_ids : IsTrue (all_different (map (λ volunteer. volunteer.id) pool.volunteers))
  pub values : IsTrue (list_all (λ volunteer. has_values pool.categories volunteer.values) pool.volunteers)
  pub households : IsTrue (list_all (λ volunteer. is_household volunteer.household) pool.volunteers)

-- the pool is within the usual limits
abbrev pub is_usual : Pool → Bool
is_usual pool = nat_le pool.size (most_members Usual) && nat_le (length pool.volunteers) (most_volunteers Usual)

-- some volunteer has a household
abbrev pub has_households : Pool → Bool
has_households pool = list_any (λ volunteer. is_some volunteer.household) pool.volunteers

-- the numbers of all volunteers
abbrev pub everybody : Pool → List ℕ
everybody pool = range_with_len 0 (length pool.volunteers)

-- volunteer `i`, counted from 0. If there is no volunteer `i`, a volunteer without values who is gone
abbrev pub volunteer : List Volunteer → ℕ → Volunteer
volunteer volunteers i = slice_index_or volunteers i (record { id = []; values = []; standing = Gone; household = None })

-- how many members of a panel have the value at `value_place` of the category at `category_place`
abbrev pub members_with : List Volunteer → List ℕ → ℕ → ℕ → ℕ
members_with volunteers panel category_place value_place =
    count_by (λ i. slice_index (volunteer volunteers i).values category_place == value_place) panel

-- `number` lies within the bounds of the value
abbrev pub is_within : BoundedValue → ℕ → Bool
is_within value number = nat_le value.lower number && nat_le number value.upper

-- for each value the number of members who have it lies within its bounds
abbrev pub meets_quotas : List Category → List Volunteer → List ℕ → Bool
meets_quotas categories volunteers panel =
    list_all (λ (category_place, category).
    list_all (λ (value_place, value). is_within value (members_with volunteers panel category_place value_place)) (enumerate_from 0 category.values))
    (enumerate_from 0 categories)

-- the standing allows a volunteer to be on a panel if `is_in` is true, and to be off it if `is_in` is false
abbrev pub allows : Standing → Bool → Bool
allows Open is_in = true
allows Seated is_in = is_in
allows Gone is_in = not is_in

-- the panel has everyone who is seated and no one who is gone
abbrev pub keeps_standings : List Volunteer → List ℕ → Bool
keeps_standings volunteers panel =
    list_all (λ (i, volunteer). allows volunteer.standing (includes panel i)) (enumerate_from 0 volunteers)

-- there are two household names, and they are equal
abbrev pub is_same_household : Option (List ℕ) → Option (List ℕ) → Bool
is_same_household None other = false
is_same_household (Some name) None = false
is_same_household (Some name) (Some other) = bytes_eq name other

-- volunteers `i` and `j` are of one household
abbrev pub share_household : List Volunteer → ℕ → ℕ → Bool
share_household volunteers i j = is_same_household (volunteer volunteers i).household (volunteer volunteers j).household

-- no two members are of one household
abbrev pub keeps_households : List Volunteer → List ℕ → Bool
keeps_households volunteers panel = list_all (λ i. nat_le (count_by (share_household volunteers i) panel) 1) panel

-- an increasing list of numbers of volunteers, of the pool's size
abbrev pub is_of_size : Pool → List ℕ → Bool
is_of_size pool panel =
    length panel == pool.size && is_increasing panel && list_all (λ i. nat_lt i (length pool.volunteers)) panel

-- an increasing list of numbers of volunteers, of the pool's size, that keeps the standings, meets every quota, and has no two
-- members of one household
abbrev pub is_quota_panel : Pool → List ℕ → Bool
is_quota_panel pool panel =
    is_of_size pool panel && keeps_standings pool.volunteers panel && meets_quotas pool.categories pool.volunteers panel
    && keeps_households pool.volunteers panel

-- the quota panels of a pool, in lexicographic order: of all choices of `size` volunteers those that are quota panels
abbrev pub panels : Pool → List (List ℕ)
panels pool = filter (is_quota_panel pool) (choices pool.size (everybody pool))
