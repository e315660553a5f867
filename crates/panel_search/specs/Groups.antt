-- Which members a count is of. The contracts of `live` cite it.
use Rattle.std.specs.Prelude.{◌<◌, ℕ, Bool, true}
use Rattle.define_searches.specs.Classes.{Class}
use Rattle.define_searches.specs.Compositions.{has_value, is_of_household}
use Rattle.panel_search.specs.declared.counting.Group.{Group}
use Rattle.panel_search.specs.declared.counting.Group.TheVariants.{Everybody, WithValue, OfHousehold}

-- the members of the class are in the group
abbrev pub is_in_group : Group → Class → Bool
is_in_group Everybody class = true
is_in_group (WithValue category value) class = has_value category value class
is_in_group (OfHousehold household) class = is_of_household household class.household

-- a group by a value is of one of the first `categories` categories
abbrev pub HasCategory : ℕ → Group → Type 0
HasCategory categories Everybody = Unit {0}
HasCategory categories (WithValue category value) = category < categories
HasCategory categories (OfHousehold household) = Unit {0}
