-- The pool that is made from a seed and a number of volunteers. Builds on Generator and on Pool of `define_pools`. `office_reports` makes
-- it.
use Rattle.std.specs.Prelude.{ℕ, ◌+◌, ◌-◌, ◌*◌, ◌/◌, ◌%◌, max, List, [], ◌∷◌, ◌++◌, map, codes, None}
use Rattle.std.specs.List.{enumerate_from, range_with_len}
use Rattle.std.specs.Fmt.{decimal}
use Rattle.define_pools.specs.declared.Standing.TheVariants.{Open}
use Rattle.define_pools.specs.Pool.{BoundedValue, Category, Volunteer, Pool, members_with}
use Rattle.define_made_pools.specs.Generator.{number}

-- the size of a panel: a tenth of the volunteers, rounded down, and at least one
abbrev pub made_size : ℕ → ℕ
made_size n = max (n / 10) 1

-- the values of volunteer i: a gender, an age and an area, each by the next number of the generator
abbrev pub made_values : ℕ → ℕ → List ℕ
made_values seed i = number seed (3 * i) % 2 ∷ number seed (3 * i + 1) % 3 ∷ number seed (3 * i + 2) % 2 ∷ []

-- the id of volunteer i, counted from 0: v1, v2 and so on
abbrev pub made_id : ℕ → List ℕ
made_id i = codes "v" ++ decimal (i + 1)

-- volunteer i, who is open and has no household
abbrev pub made_volunteer : ℕ → ℕ → Volunteer
made_volunteer seed i = record { id = made_id i; values = made_values seed i; standing = Open; household = None }

abbrev pub made_volunteers : ℕ → ℕ → List Volunteer
made_volunteers seed n = map (made_volunteer seed) (range_with_len 0 n)

-- the bounds of a value that `members` of the first `size` volunteers have: `members - 1`, but at least 0, and `members + 1`
abbrev pub bounded_by : List ℕ → ℕ → BoundedValue
bounded_by name members = record { name = name; lower = members - 1; upper = members + 1 }

-- the category called `name`, which is at `place` in the pool. The bounds of each value are made from the number of the first `size`
-- volunteers who have it
abbrev pub made_category : List Volunteer → ℕ → ℕ → List ℕ → List (List ℕ) → Category
made_category volunteers size place name value_names = record {
  name = name;
  values = map (λ (value_place, value_name). bounded_by value_name (members_with volunteers (range_with_len 0 size) place value_place))
      (enumerate_from 0 value_names);
}

-- the names of the values of the category `gender`
abbrev pub genders : List (List ℕ)
genders = codes "female" ∷ codes "male" ∷ []

-- the names of the values of the category `age`
abbrev pub ages : List (List ℕ)
ages = codes "young" ∷ codes "middle" ∷ codes "old" ∷ []

-- the names of the values of the category `area`
abbrev pub areas : List (List ℕ)
areas = codes "town" ∷ codes "country" ∷ []

abbrev pub made_categories : List Volunteer → ℕ → List Category
made_categories volunteers size =
    made_category volunteers size 0 (codes "gender") genders
    ∷ made_category volunteers size 1 (codes "age") ages
    ∷ made_category volunteers size 2 (codes "area") areas
    ∷ []

-- the pool of a seed and a number of volunteers
abbrev pub made_pool : ℕ → ℕ → Pool
made_pool seed n = record {
  size = made_size n;
  categories = made_categories (made_volunteers seed n) (made_size n);
  volunteers = made_volunteers seed n;
}
