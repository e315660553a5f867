-- Files for the worked examples.
use Rattle.std.specs.Prelude.{ℕ, List, [], ◌∷◌, codes, Option, Result, Err, map}
use Rattle.std.specs.List.{range_with_len}
use Rattle.define_pools.specs.Pool.{BoundedValue, Category}
use Rattle.define_offices.specs.Commands.{Given}
use Rattle.define_imports.specs.Cells.{Fault}

abbrev pub fault : {Value : Type 0} → ℕ → ℕ → Result Value Fault
fault place kind = Err (record { place = place; kind = kind })

-- a field that isn't UTF-8
abbrev pub no_text : List ℕ
no_text = 255 ∷ []

-- ---- records and categories of rules

abbrev pub head : List (List ℕ)
head = codes "category" ∷ codes "name" ∷ codes "min" ∷ codes "max" ∷ []

abbrev pub line : List ℕ → List ℕ → List ℕ → List ℕ → List (List ℕ)
line category name min max = category ∷ name ∷ min ∷ max ∷ []

abbrev pub female : List (List ℕ)
female = line (codes "gender") (codes "female") (codes "1") (codes "1")

abbrev pub male : List (List ℕ)
male = line (codes "gender") (codes "male") (codes "1") (codes "1")

abbrev pub value : List ℕ → ℕ → ℕ → BoundedValue
value name lower upper = record { name = name; lower = lower; upper = upper }

-- a category `gender` of two values
abbrev pub rules : List Category
rules = record { name = codes "gender"; values = value (codes "female") 1 1 ∷ value (codes "male") 1 1 ∷ [] } ∷ []

-- 20 categories
abbrev pub many_categories : List Category
many_categories = map (λ letter. record { name = letter ∷ []; values = value (codes "yes") 0 1 ∷ [] }) (range_with_len 65 20)

-- a category `gender` of 50 values
abbrev pub many_values : List Category
many_values = record { name = codes "gender"; values = map (λ letter. value (letter ∷ []) 0 1) (range_with_len 65 50) } ∷ []

-- ---- records of registers

abbrev pub columns : List (List ℕ)
columns = codes "id" ∷ codes "key" ∷ codes "gender" ∷ []

abbrev pub row : List ℕ → List ℕ → List ℕ → List (List ℕ)
row id key gender = id ∷ key ∷ gender ∷ []

abbrev pub a : List (List ℕ)
a = row (codes "a") (codes "abc") (codes "female")

abbrev pub given : List ℕ → List ℕ → List ℕ → Option (List ℕ) → Given
given id key gender household = record { id = id; key = key; values = gender ∷ []; household = household }
