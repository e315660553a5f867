-- Classes of volunteers, made by any test of who is alike. Builds on Pool of `define_pools`. `alike` makes them, and every search works
-- with them.
use Rattle.std.specs.Prelude.{◌≡◌, ℕ, ◌==◌, ◌≤◌, ◌<◌, nat_le, if◌then◌else◌, Bool, true, false, not, ◌&&◌, ◌||◌, IsTrue, List, [], map, length, filter, slice_index, slice_index_or, sum_by, count_by, bytes_eq, Option, Some, None, is_some}
use Rattle.std.specs.List.{find, list_any, position_or_len, range_with_len, All, AllByRecursion}
use Rattle.define_pools.specs.declared.Standing.{Standing}
use Rattle.define_pools.specs.declared.Standing.TheVariants.{Open, Seated, Gone}
use Rattle.define_pools.specs.Lists.{includes, is_increasing}
use Rattle.define_pools.specs.Pool.{Category, Pool, Volunteer, share_household, volunteer}
use Rattle.define_searches.specs.declared.Bounds.{Bounds}

-- volunteers with the same values and standing; someone who shares a household is in a class alone
pub record Class : Type 0 where
  -- the members' numbers, in rising order
  pub members : List ℕ
  -- for each category, the place of the value that all of them have
  pub values : List ℕ
  -- the least number of the class's members that a panel can have
  pub least : ℕ
  -- the greatest number of the class's members that a panel can have
  pub most : ℕ
  -- the number of the household that the class's only member shares, if there is one
  pub household : Option ℕ

-- what a search for panels needs: the size of a panel, for each category the bounds of its values, and the classes
pub record Classes : Type 0 where
  pub size : ℕ
  pub bounds : List (List Bounds)
  pub classes : List Class

-- a class has one value per category, which is a value of that category
pub record HasPlaces (bounds : List (List Bounds)) (class : Class) : Type 0 where
  pub one_each : length class.values ≡ length bounds
  pub within : (c : ℕ) → c < length bounds → slice_index class.values c < length (slice_index_or bounds c [])

-- no class has a `least` above its `most`
pub record IsSearchable (all : Classes) : Type 0 where
  pub in_order : AllByRecursion (λ class. class.least ≤ class.most) all.classes

-- the number of the class that contains volunteer `i`; if none does, the length of the list of classes
abbrev pub class_number : List Class → ℕ → ℕ
class_number classes i = position_or_len (λ class. includes class.members i) classes

-- how many volunteers the classes hold in all
abbrev pub volunteer_count : Classes → ℕ
volunteer_count all = sum_by (λ class. length class.members) all.classes

-- each class lists its members in rising order. The members are numbers below the count of volunteers, and each of these numbers is in
-- exactly one class
pub record PartVolunteers (all : Classes) : Type 0 where
  pub rising : AllByRecursion (λ class. IsTrue (is_increasing class.members)) all.classes
  pub known : AllByRecursion (λ class. AllByRecursion (λ i. i < volunteer_count all) class.members) all.classes
  pub once : (i : ℕ) → i < volunteer_count all → count_by (λ class. includes class.members i) all.classes ≡ 1

-- if there is a household number, it is less than `count`
abbrev pub IsKnownHousehold : ℕ → Option ℕ → Type 0
IsKnownHousehold count None = Unit {0}
IsKnownHousehold count (Some h) = h < count

-- the limits that the classes of each pool keep, so that sums over them stay small
pub record KeepsLimits (all : Classes) : Type 0 where
  -- a panel has 1 to 1,000 members
  pub size : (1 ≤ all.size) × (all.size ≤ 1000)
  -- at most 20 categories
  pub few_categories : length all.bounds ≤ 20
  -- at most 50 values a category
  pub few_values : All (λ values. length values ≤ 50) all.bounds
  -- each value's lower bound is at most its upper bound, which is at most 999
  pub bounds : All (λ values. All (λ bound. (bound.lower ≤ bound.upper) × (bound.upper ≤ 999)) values) all.bounds
  -- at most 4,000 classes
  pub few_classes : length all.classes ≤ 4000
  -- at most 4,000 members in all
  pub few_members : volunteer_count all ≤ 4000
  -- each class has a member
  pub members : All (λ class. 1 ≤ length class.members) all.classes
  -- the `most` of a class is at most the number of its members
  pub most : All (λ class. class.most ≤ length class.members) all.classes
  pub searchable : IsSearchable all
  -- each class has one value per category
  pub values : All (HasPlaces all.bounds) all.classes
  pub households : All (λ class. IsKnownHousehold (volunteer_count all) class.household) all.classes

-- how many members of a class of `size` volunteers with this standing a panel must have: all if they are seated, else none
abbrev pub least_taken : Standing → ℕ → ℕ
least_taken Open size = 0
least_taken Seated size = size
least_taken Gone size = 0

abbrev pub most_taken : Standing → ℕ → ℕ
most_taken Open size = size
most_taken Seated size = size
most_taken Gone size = 0

-- the number of the household that volunteer `i` shares: the number of the household's first member. A household of one has no number
abbrev pub shared_household : List Volunteer → ℕ → Option ℕ
shared_household volunteers i =
    let everybody = range_with_len 0 (length volunteers) in
    if nat_le 2 (count_by (share_household volunteers i) everybody) then find (share_household volunteers i) everybody else None

-- the leaders among the first `count` volunteers: those to whom nobody with a lower number is alike. Each is the first member of a class
abbrev pub leaders : (ℕ → ℕ → Bool) → ℕ → List ℕ
leaders alike count = filter (λ i. not (list_any (λ j. alike j i) (range_with_len 0 i))) (range_with_len 0 count)

-- the volunteers who are alike to a leader, in rising order
abbrev pub class_of : (ℕ → ℕ → Bool) → ℕ → ℕ → List ℕ
class_of alike count leader = filter (alike leader) (range_with_len 0 count)

-- the class of a leader, by a test of who is alike
abbrev pub class_by : (ℕ → ℕ → Bool) → Pool → ℕ → Class
class_by alike pool leader =
    let members = class_of alike (length pool.volunteers) leader in
    record {
      members = members;
      values = (volunteer pool.volunteers leader).values;
      least = least_taken (volunteer pool.volunteers leader).standing (length members);
      most = most_taken (volunteer pool.volunteers leader).standing (length members);
      household = shared_household pool.volunteers leader;
    }

-- for each category the bounds of its values
abbrev pub bounds_of : List Category → List (List Bounds)
bounds_of categories = map (λ category. map (λ value. record { lower = value.lower; upper = value.upper }) category.values) categories

-- the classes of a pool, in the order of their first members, by a test of who is alike
abbrev pub classes_by : (ℕ → ℕ → Bool) → Pool → Classes
classes_by alike pool = record {
  size = pool.size;
  bounds = bounds_of pool.categories;
  classes = map (class_by alike pool) (leaders alike (length pool.volunteers));
}

abbrev pub is_same_standing : Standing → Standing → Bool
is_same_standing Open Open = true
is_same_standing Open Seated = false
is_same_standing Open Gone = false
is_same_standing Seated Open = false
is_same_standing Seated Seated = true
is_same_standing Seated Gone = false
is_same_standing Gone Open = false
is_same_standing Gone Seated = false
is_same_standing Gone Gone = true

-- two volunteers have the same values and the same standing
abbrev pub are_equal : Volunteer → Volunteer → Bool
are_equal one other = bytes_eq one.values other.values && is_same_standing one.standing other.standing

-- a volunteer shares a household with another volunteer
abbrev pub shares_household : Pool → ℕ → Bool
shares_household pool i = is_some (shared_household pool.volunteers i)

-- two volunteers are alike: they are the same, or they have equal values and equal standing, and neither shares a household
abbrev pub are_alike : Pool → ℕ → ℕ → Bool
are_alike pool i j =
    i == j || (are_equal (volunteer pool.volunteers i) (volunteer pool.volunteers j) && not (shares_household pool i) && not (shares_household pool j))

-- the classes of a pool, by the test `are_alike`
abbrev pub classes_of : Pool → Classes
classes_of pool = classes_by (are_alike pool) pool

-- `alike` is an equivalence: reflexive, symmetric and transitive
pub record IsEquivalenceTest (alike : ℕ → ℕ → Bool) : Type 0 where
  pub itself : (i : ℕ) → IsTrue (alike i i)
  pub back : (i j : ℕ) → IsTrue (alike i j) → IsTrue (alike j i)
  pub along : (i j k : ℕ) → IsTrue (alike i j) → IsTrue (alike j k) → IsTrue (alike i k)

-- a test that makes classes of volunteers: it is an equivalence, alike volunteers have the same values and standing, and someone who
-- shares a household is alike only to themself
pub record MakesClasses (pool : Pool) (alike : ℕ → ℕ → Bool) : Type 0 where
  pub same : IsEquivalenceTest alike
  pub values : (i j : ℕ) → IsTrue (alike i j) → (volunteer pool.volunteers i).values ≡ (volunteer pool.volunteers j).values
  pub standing : (i j : ℕ) → IsTrue (alike i j) → (volunteer pool.volunteers i).standing ≡ (volunteer pool.volunteers j).standing
  pub alone : (i j : ℕ) → IsTrue (alike i j) → IsTrue (is_some (shared_household pool.volunteers i)) → i ≡ j
