-- The text of a pool: each pool has one spelling. A pool beyond the usual limits has version 3; any other has version 2 if somebody has a
-- household, else version 1. Builds on Pool and Building of `define_pools`, and on Lines of `define_lines`. `pool_text` writes it, and the texts of bundles and proofs contain it.
use Rattle.std.specs.Prelude.{ℕ, if◌then◌else◌, List, [], ◌∷◌, ◌++◌, map, codes, slice_index_or, Option, Some, None}
use Rattle.std.specs.List.{flat_map}
use Rattle.std.specs.Fmt.{decimal}
use Rattle.define_pools.specs.declared.Standing.{Standing}
use Rattle.define_pools.specs.declared.Standing.TheVariants.{Open, Seated, Gone}
use Rattle.define_pools.specs.Pool.{BoundedValue, Category, Volunteer, Pool, is_usual, has_households}
use Rattle.define_pools.specs.Building.{value_names}
use Rattle.define_lines.specs.Lines.{line_of, text_of}
use Rattle.define_bundles.specs.declared.Version.{Version}
use Rattle.define_bundles.specs.declared.Version.TheVariants.{First, Second, Third}

-- the field of a version
abbrev pub version_field : Version → List ℕ
version_field First = codes "1"
version_field Second = codes "2"
version_field Third = codes "3"

abbrev pub version_line : Version → List ℕ
version_line version = line_of (codes "pool" ∷ version_field version ∷ [])

-- the version of a pool's text
abbrev pub version_of : Pool → Version
version_of pool = if is_usual pool then (if has_households pool then Second else First) else Third

abbrev pub size_line : ℕ → List ℕ
size_line size = line_of (codes "size" ∷ decimal size ∷ [])

-- a value's line: its name and its bounds
abbrev pub value_line : BoundedValue → List ℕ
value_line value = line_of (codes "value" ∷ value.name ∷ decimal value.lower ∷ decimal value.upper ∷ [])

-- a category's line, and those of its values
abbrev pub category_lines : Category → List (List ℕ)
category_lines category = line_of (codes "category" ∷ category.name ∷ []) ∷ map value_line category.values

-- for each category, the name of its value at the category's place in `places`
abbrev pub names_at : List Category → List ℕ → List (List ℕ)
names_at [] places = []
names_at (category ∷ categories) [] = []
names_at (category ∷ categories) (place ∷ places) = slice_index_or (value_names category.values) place [] ∷ names_at categories places

-- a volunteer's line: the id, and the names of the values
abbrev pub volunteer_line : List Category → Volunteer → List ℕ
volunteer_line categories volunteer = line_of (codes "volunteer" ∷ volunteer.id ∷ names_at categories volunteer.values)

-- the line of a household, if there is one: the word `household`, the volunteer's id, and the household's name
abbrev pub household_line : Option (List ℕ) → List ℕ → List (List ℕ)
household_line None id = []
household_line (Some name) id = line_of (codes "household" ∷ id ∷ name ∷ []) ∷ []

-- the lines of those who have a household, in the order of the volunteers
abbrev pub household_lines : List Volunteer → List (List ℕ)
household_lines volunteers = flat_map (λ volunteer. household_line volunteer.household volunteer.id) volunteers

-- the line of a volunteer's standing, if it isn't open: the word `seated` or `gone`, and the volunteer's id
abbrev pub standing_line : Standing → List ℕ → List (List ℕ)
standing_line Open id = []
standing_line Seated id = line_of (codes "seated" ∷ id ∷ []) ∷ []
standing_line Gone id = line_of (codes "gone" ∷ id ∷ []) ∷ []

-- the lines of those who aren't open, in the order of the volunteers
abbrev pub standing_lines : List Volunteer → List (List ℕ)
standing_lines volunteers = flat_map (λ volunteer. standing_line volunteer.standing volunteer.id) volunteers

abbrev pub end_line : List ℕ
end_line = codes "end"

-- the lines of a pool before its end, in this version
abbrev pub lines_in : Version → Pool → List (List ℕ)
lines_in version pool =
    version_line version ∷ size_line pool.size
    ∷ (flat_map category_lines pool.categories ++ map (volunteer_line pool.categories) pool.volunteers
    ++ household_lines pool.volunteers ++ standing_lines pool.volunteers)

-- the lines of a pool before its end, in its own version
abbrev pub lines_before_end : Pool → List (List ℕ)
lines_before_end pool = lines_in (version_of pool) pool

-- the text of a pool
abbrev pub spelling : Pool → List ℕ
spelling pool = text_of (lines_before_end pool ++ end_line ∷ [])
