-- The rule of `define_imports` that a rule of the code is, and the categories after a value is added to one of them. The contracts of
-- `drafts` and `rules` cite it.
use Rattle.std.specs.Prelude.{ℕ, zero, suc, List, [], ◌∷◌, ◌++◌}
use Rattle.define_pools.specs.Pool.{BoundedValue, Category}
use Rattle.define_imports.specs.Rules as words
use Rattle.office_import.specs.declared.rules.Rule.{Rule}

abbrev pub rule_seen : Rule → words.Rule
rule_seen r = record { category = r.category.now; value = record { name = r.name.now; lower = r.lower; upper = r.upper } }

-- the categories, with the value appended to the one at a place, counted from 0
abbrev pub with_value_at : List Category → ℕ → BoundedValue → List Category
with_value_at [] place value = []
with_value_at (category ∷ categories) zero value = record category { values = category.values ++ value ∷ [] } ∷ categories
with_value_at (category ∷ categories) (suc place) value = category ∷ with_value_at categories place value
