-- The searches, front by front: what they find, and how many fronts they enter. To enter a front is one visit; the empty front counts as
-- one even if it isn't live. From an entered front its children are tried, the greatest count first, and each child that is live at that
-- moment is entered. Builds on Classes, Compositions and Fronts. `panel_search` searches this way.
use Rattle.std.specs.Prelude.{ℕ, ◌+◌, if◌then◌else◌, List, [], ◌∷◌, ◌++◌, filter, map, fold, ℤ, Option, Some, None, is_some}
use Rattle.define_rows.specs.Row.{Row}
use Rattle.define_searches.specs.Classes.{Class, Classes}
use Rattle.define_searches.specs.Compositions.{counts_of, weight_in}
use Rattle.define_searches.specs.Fronts.{is_reachable, is_live_above}

-- how many visits a search makes, and the composition that it finds
pub record Search : Type 0 where
  pub visits : ℕ
  pub found : Option (List ℕ)

-- searches one after the other, up to the first one that finds a composition
abbrev pub one_by_one : List Search → Search
one_by_one [] = record { visits = 0; found = None }
one_by_one (search ∷ later) =
    if is_some search.found then search
    else record { visits = search.visits + (one_by_one later).visits; found = (one_by_one later).found }

-- the search from an entered front; the list of classes has those after the front. If the list is empty, the front is a composition, and
-- the search finds it
abbrev pub enter_first : Classes → List Class → List ℕ → Search
enter_first all [] front = record { visits = 1; found = Some front }
enter_first all (class ∷ later) front =
    let below = one_by_one (map (λ child. enter_first all later child) (filter (is_reachable all) (map (λ c. front ++ c ∷ []) (counts_of class)))) in
    record { visits = 1 + below.visits; found = below.found }

-- the search for the first composition
abbrev pub first_search : Classes → Search
first_search all = if is_reachable all [] then enter_first all all.classes [] else record { visits = 1; found = None }

-- how far a search for the best composition is: its visits, the floor, and the composition that was kept last
pub record Pricing : Type 0 where
  pub visits : ℕ
  pub floor : ℤ
  pub kept : Option (List ℕ)

-- the search from an entered front; the list of classes has those after the front. If the list is empty, the front is kept, and its weight
-- is the floor from then on
abbrev pub enter_best : Classes → List Row → Row → List Class → List ℕ → Pricing → Pricing
enter_best all closed row [] front so_far = record { visits = so_far.visits + 1; floor = weight_in row.a front; kept = Some front }
enter_best all closed row (class ∷ later) front so_far =
    fold (λ now c. if is_live_above all closed row now.floor (front ++ c ∷ []) then enter_best all closed row later (front ++ c ∷ []) now else now)
    (record so_far { visits = so_far.visits + 1 }) (counts_of class)

-- the search for the best composition, whose floor begins as the row's right side
abbrev pub best_search : Classes → List Row → Row → Pricing
best_search all closed row =
    let begun : Pricing = record { visits = 0; floor = row.b; kept = None } in
    if is_live_above all closed row row.b [] then enter_best all closed row all.classes [] begun else record begun { visits = 1 }
