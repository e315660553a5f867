-- Who is alike at a stage, after earlier stages. The contracts of src/likeness.rt and src/grouping.rt cite it.
use Rattle.std.specs.Prelude.{◌≡◌, ◌∷◌, ℕ, Bool, List, Option, length, map}
use Rattle.std.specs.List.{range_with_len}
use Rattle.define_checks.specs.Caps.{alike_at}
use Rattle.define_pools.specs.Certificate.{Stage}
use Rattle.define_pools.specs.Pool.{Volunteer}
use Rattle.define_searches.specs.Classes.{shared_household}
use Rattle.check_search.specs.declared.likeness.Likeness.{Likeness}

-- the stage and the earlier ones, the latest first: volunteers of different weights in one of them aren't alike
abbrev pub stages_of : Likeness → List Stage
stages_of likeness = likeness.stage.now ∷ likeness.earlier.now

-- how many volunteers there are
abbrev pub count_of : Likeness → ℕ
count_of likeness = length likeness.pool.now.volunteers

abbrev pub is_alike : Likeness → ℕ → ℕ → Bool
is_alike likeness = alike_at likeness.pool.now (stages_of likeness)

-- for each volunteer, `households` has the number of the household that the volunteer shares with somebody, if there is one
abbrev pub AreShared : List Volunteer → List (Option ℕ) → Type 0
AreShared volunteers households = households ≡ map (shared_household volunteers) (range_with_len 0 (length volunteers))

abbrev pub KnowsHouseholds : Likeness → Type 0
KnowsHouseholds likeness = AreShared likeness.pool.now.volunteers likeness.households.items
